-- The parts of a message's head at a cursor: what each leaves.
use Rattle.std.specs.Prelude.{Bool}
use Rattle.bits.specs.Reader.{Tail}
use Rattle.bits.specs.ReaderLaws.{local_tail}
use Rattle.messages.specs.Description.{options_behind}
use Rattle.messages.specs.Calls.{description_of, tie_of, format_of}
use Rattle.messages.specs.declared.Message.{Message}
use Rattle.messages.proofs.DescriptionLaws.{behind_options-local, head-local}
use Rattle.messages.proofs.ReadBack.{all_sound}

pub head_tail : (m : Message) → Tail (format_of m).head
head_tail m = local_tail (head-local (description_of m) (all_sound m) (tie_of m).options (tie_of m).head)

pub options_tail : (m : Message) (b : Bool) → Tail (options_behind (description_of m).options (tie_of m).options b)
options_tail m b = local_tail (behind_options-local (description_of m).options (all_sound m) (tie_of m).options b)
