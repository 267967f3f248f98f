-- All claims of this crate, one field each. Their proof is `proved` in proofs/Proved.antt.
use Rattle.spec.specs.Endings.{MachineOrder, TerminalIsAbsorbing, EndsOnlyWhen}
use Rattle.spec.specs.Claims.{Masks, LandingBits, Installs, Sizes, Signs, WordsRoundTrip, BytesRoundTrip, RewriteLeaves, RewrittenPasses, PassedRewrites, Shapes, Checks, PassedDecodes, EndingStatus, Previews, RunsCompose, PrefixClosed, GuestRule, EveryMoment, ResumableNoPause, Resumes, Progress, Recorded, Ceilings, Isolation, NoWrap, StateCell, PausedWaits, PauseRule}

pub record Proved : Type 0 where
  pub masks : Masks
  pub landing_bits : LandingBits
  pub installs : Installs
  pub sizes : Sizes
  pub signs : Signs
  pub words_round_trip : WordsRoundTrip
  pub bytes_round_trip : BytesRoundTrip
  pub rewrite_leaves : RewriteLeaves
  pub rewritten_passes : RewrittenPasses
  pub passed_rewrites : PassedRewrites
  pub shapes : Shapes
  pub checks : Checks
  pub passed_decodes : PassedDecodes
  pub ending_status : EndingStatus
  pub machine_order : MachineOrder
  pub terminal_is_absorbing : TerminalIsAbsorbing
  pub ends_only_when : EndsOnlyWhen
  pub previews : Previews
  pub runs_compose : RunsCompose
  pub prefix_closed : PrefixClosed
  pub guest_rule : GuestRule
  pub every_moment : EveryMoment
  pub resumable_no_pause : ResumableNoPause
  pub resumes : Resumes
  pub progress : Progress
  pub recorded : Recorded
  pub ceilings : Ceilings
  pub isolation : Isolation
  pub no_wrap : NoWrap
  pub state_cell : StateCell
  pub paused_waits : PausedWaits
  pub pause_rule : PauseRule
