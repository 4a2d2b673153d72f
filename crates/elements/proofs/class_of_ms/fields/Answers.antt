-- `elements::class_of_ms::fields` meets its contract: the parts of a word.
use Rattle.elements.proofs.ClassOfMsLaws.{class_fields_lem}
use Rattle.elements.proofs.class_of_ms.fields.Goals as goal

pub returns : goal.returns
returns c = class_fields_lem c.args.word
