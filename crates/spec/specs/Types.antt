-- Re-exports the types of `types` and their cases, so that each file here needs one line for them.
pub use Rattle.types.specs.declared.Layout.{Layout}
pub use Rattle.types.specs.declared.PolicyNumbers.{PolicyNumbers}
pub use Rattle.types.specs.declared.Fields.{Fields}
pub use Rattle.types.specs.declared.Limits.{Limits}
pub use Rattle.types.specs.declared.Instr.{Instr}
pub use Rattle.types.specs.declared.Instr.TheVariants.{HALT, PLAIN, LOAD, STORE, GOIF, GOX, EVENT}
pub use Rattle.types.specs.declared.Command.{Command}
pub use Rattle.types.specs.declared.Command.TheVariants.{Nop, Halt, Plain, Load, Store, GoIf, GoReg, Look, StopIf, Keep, Event, Invalid}
pub use Rattle.types.specs.declared.Bundle.{Bundle}
pub use Rattle.types.specs.declared.Status.{Status}
pub use Rattle.types.specs.declared.Status.TheVariants.{Running, Ended, Stopped, Faulted, Strayed}
pub use Rattle.types.specs.declared.Machine.{Machine}
pub use Rattle.types.specs.declared.Refusal.{Refusal}
pub use Rattle.types.specs.declared.Refusal.TheVariants.{Short, Foreign, UnknownKind, OffRange, Oversize, Trailing, BadLayout, BadLanding, SmallOutput, BadPolicy, BadBundle, BadCount, BadBase, BadLandings, TooManyStates, BadDrawing, BadPair, NotForward}
pub use Rattle.types.specs.declared.Answer.{Answer}
pub use Rattle.types.specs.Results.{Decoded}
pub use Rattle.types.specs.Results.{Word, RefusedWith}
pub use Rattle.types.specs.declared.Ending.{Ending}
pub use Rattle.types.specs.declared.Ending.TheVariants.{Done, NoArrow, Fault, LogFull, Silent, Spent, NoLanding, Refused}
pub use Rattle.types.specs.declared.RunAnswer.{RunAnswer}
pub use Rattle.types.specs.declared.Outcome.{Outcome}
pub use Rattle.types.specs.Results.{Installed}
pub use Rattle.types.specs.declared.Effect.{Effect}
pub use Rattle.types.specs.declared.Effect.TheVariants.{Go, SetReg, SetCell, Order, Probe, End, Wait}
