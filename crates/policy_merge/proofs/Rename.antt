-- Renaming the nodes changes neither their numbers nor the table.
use Prim.Native.Nat.{ℕ, zero, suc, ◌*◌, ◌/◌, ◌%◌}
use mathlib.Core.Path.{◌≡◌, refl, sym, ap, ap₂, ◌∙◌}
use mathlib.Core.Bool.{Bool, true, false, ◌||◌, cond}
use mathlib.Core.List.{List, [], ◌∷◌, ◌++◌, map}
use lib.Dec.{eqb}
use lib.ListN.{length, get_or, length-map}
use borrow.Author.Tests.{eqb-true, eqb-false, eq-eqb, ne_eqb}
use Rattle.types.specs.Names.{most_states, events, no_arrow}
use Rattle.policy_spec.specs.maps.Maps.{build}
use Rattle.policy_spec.specs.reachability.Reach.{index_of, known, insert, target, reached_by, nodes, node_state, byte_of, states_of, table_of}
use Rattle.policy_spec.proofs.reachability.Places.{Inserts, none, again, anew, inserts}

-- `name` maps the nodes of f from q, which all satisfy P, to those of g
pub record Renames (f g : ℕ → ℕ → ℕ) (q : ℕ) (name : ℕ → ℕ) (P : ℕ → Type 0) : Type 0 where
  pub none : name 0 ≡ 0
  pub apart : (x y : ℕ) → P x → P y → name x ≡ name y → x ≡ y
  pub steps : (x e : ℕ) → P x → g (name x) e ≡ name (f x e)
  pub zero_in : P 0
  pub start_in : P q
  pub next_in : (x e : ℕ) → P x → P (f x e)

module _ (f g : ℕ → ℕ → ℕ) (q : ℕ) (name : ℕ → ℕ) (P : ℕ → Type 0) (re : Renames f g q name P) where
  abbrev All : List ℕ → Type 0
  All ns = (i : ℕ) → P (get_or ns i 0)

  eqb_name : (x y : ℕ) → P x → P y → eqb (name x) (name y) ≡ eqb x y
  eqb_name x y h k = go (eqb x y) refl
    where
      go : (b : Bool) → eqb x y ≡ b → eqb (name x) (name y) ≡ b
      go true e = eq-eqb (name x) (name y) (ap name (eqb-true x y e))
      go false e = ne_eqb (name x) (name y) (λ z. eqb-false x y e (re.apart x y h k z))

  eqb_none : (x : ℕ) → P x → eqb (name x) 0 ≡ eqb x 0
  eqb_none x h = ap (eqb (name x)) (sym re.none) ∙ eqb_name x 0 h re.zero_in

  get_d_name : (ns : List ℕ) (i : ℕ) → get_or (map name ns) i 0 ≡ name (get_or ns i 0)
  get_d_name [] i = sym re.none
  get_d_name (y ∷ ns) zero = refl
  get_d_name (y ∷ ns) (suc i) = get_d_name ns i

  place_name : (ns : List ℕ) (x : ℕ) → All ns → P x → index_of (map name ns) (name x) ≡ index_of ns x
  place_name [] x a h = refl
  place_name (y ∷ ns) x a h = rw (eqb_name y x (a 0) h, place_name ns x (λ i. a (suc i)) h)

  map_snoc : (ns : List ℕ) (x : ℕ) → map name ns ++ (name x ∷ []) ≡ map name (ns ++ (x ∷ []))
  map_snoc [] x = refl
  map_snoc (y ∷ ns) x = ap (λ (l : List ℕ). name y ∷ l) (map_snoc ns x)

  insert_name : (ns : List ℕ) (x : ℕ) → All ns → P x → insert (map name ns) (name x) ≡ map name (insert ns x)
  unfolding insert
  insert_name ns x a h = rw (eqb_none x h, place_name ns x a h, length-map ns name) (go (eqb x 0 || known ns x))
    where
      go : (b : Bool) → cond b (map name ns) (map name ns ++ (name x ∷ [])) ≡ map name (cond b ns (ns ++ (x ∷ [])))
      go true = refl
      go false = map_snoc ns x

  insert_in : (ns : List ℕ) (x : ℕ) → All ns → P x → All (insert ns x)
  insert_in ns x a h = go (insert ns x) (inserts ns x)
    where
      snoc : (l : List ℕ) → All l → All (l ++ (x ∷ []))
      snoc [] b zero = h
      snoc [] b (suc i) = re.zero_in
      snoc (y ∷ l) b zero = b 0
      snoc (y ∷ l) b (suc i) = snoc l (λ j. b (suc j)) i

      go : (l : List ℕ) → Inserts ns x l → All l
      go l (none e) = a
      go l (again k) = a
      go l (anew z k) = snoc ns a

  target_name : (ns : List ℕ) (k : ℕ) → All ns → target g (map name ns) k ≡ name (target f ns k)
  target_name ns k a = ap (λ (x : ℕ). g x (k % events)) (get_d_name ns (k / events)) ∙ re.steps (get_or ns (k / events) 0) (k % events) (a (k / events))

  reached_in : (k : ℕ) → All (reached_by f q k)
  unfolding reached_by
  reached_in zero zero = re.start_in
  reached_in zero (suc i) = re.zero_in
  reached_in (suc k) i = insert_in (reached_by f q k) (target f (reached_by f q k) k) (reached_in k) (re.next_in (get_or (reached_by f q k) (k / events) 0) (k % events) (reached_in k (k / events))) i

  pub reached_name : (k : ℕ) → reached_by g (name q) k ≡ map name (reached_by f q k)
  unfolding reached_by
  reached_name zero = refl
  reached_name (suc k) =
      ap (λ (ns : List ℕ). insert ns (target g ns k)) (reached_name k)
      ∙ ap (insert (map name (reached_by f q k))) (target_name (reached_by f q k) k (reached_in k))
      ∙ insert_name (reached_by f q k) (target f (reached_by f q k) k) (reached_in k) (re.next_in (get_or (reached_by f q k) (k / events) 0) (k % events) (reached_in k (k / events)))

  pub states_name : states_of g (name q) ≡ states_of f q
  states_name = ap length (reached_name (events * most_states)) ∙ length-map (nodes f q) name

  entry_name : (k : ℕ) → byte_of g (nodes g (name q)) k ≡ byte_of f (nodes f q) k
  entry_name k =
      let ns = nodes f q in
      let a = reached_in (events * most_states) in
      let x = target f ns k in
      let h : P x = re.next_in (get_or ns (k / events) 0) (k % events) (a (k / events)) in
      ap (λ (l : List ℕ). byte_of g l k) (reached_name (events * most_states))
      ∙ ap (node_state (map name ns)) (target_name ns k a)
      ∙ ap₂ (λ (b : Bool) (p : ℕ). cond b no_arrow p) (eqb_none x h) (place_name ns x a h)

  pub table_name : table_of g (name q) ≡ table_of f q
  unfolding table_of
  table_name = ap₂ (λ (h : ℕ → ℕ) (n : ℕ). build h (events * n)) (λ i k. entry_name k i) states_name
