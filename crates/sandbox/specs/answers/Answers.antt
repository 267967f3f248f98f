-- What rewriting answers for words that were read but not kept.
use Rattle.std.specs.Prelude.{ℕ, not, [], ◌∷◌, ltb}
use Rattle.types.specs.declared.Layout.{Layout}
use Rattle.types.specs.declared.Answer.{Answer}
use Rattle.types.specs.declared.Refusal.TheVariants.{BadLayout, BadLanding}
use Rattle.types.specs.Names.{refusal, first}
use Rattle.spec.specs.Layouts.{right_layout}
use Rattle.spec.specs.Bundles.{base_room_answer}

-- bad layout (7), bad landing (8) at the first GOIF past the end, bad base (13), small hopper (9)
unfoldable pub landings_answer : Layout → ℕ → ℕ → ℕ → Answer
landings_answer lay n past room =
    first ((not (right_layout lay), refusal BadLayout 0) ∷ (ltb past n, refusal BadLanding past) ∷ []) (base_room_answer lay n room)
