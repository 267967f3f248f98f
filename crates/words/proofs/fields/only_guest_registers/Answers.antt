use Rattle.words.proofs.fields.HiddenRegister.{guests_are}
use Rattle.words.proofs.fields.only_guest_registers.Goals as goal

pub returns : goal.returns
returns c = guests_are c.args.w
