-- `elements::typed_pdu_fields::is_listed` meets its contract.
use Rattle.std.specs.Prelude.{nat_eq}
use Rattle.std.proofs.Common.{rules, tests, ◌∙◌}
use Rattle.std.proofs.lemmas.Iterator.{YieldsList-from_slice}
use Rattle.std.proofs.lemmas.Iterator.Search.{any_from_yields_List}
use Rattle.elements.specs.declared.typed_pdu_fields.Row.{Row}
use Rattle.elements.proofs.Tables.{listed-any}
use Rattle.elements.proofs.typed_pdu_fields.is_listed.Goals as goal

pub returns : goal.returns
returns c =
    let t = c.args.table.now in
    any_from_yields_List (λ (r : Row). nat_eq c.args.identifier r.identifier) _ _ _ c.any.ensures.ran (YieldsList-from_slice t cc) (λ x b q k. search (rules, tests))
    ∙ listed-any t c.args.identifier
