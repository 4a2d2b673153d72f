-- `element_writers::class_of_ms::fits` meets its contract.
use Rattle.std.specs.Prelude.{ℕ}
use Rattle.std.proofs.Common.{rules, tests, ◌∙◌}
use Rattle.std.proofs.lemmas.Iterator.{YieldsList-from_slice, YieldsList-from_zip}
use Rattle.std.proofs.lemmas.Iterator.Search.{all_from_yields_List}
use Rattle.elements.specs.Numbers.{in_width}
use Rattle.elements.specs.ClassOfMs.{class_widths, class_fields, class_fits}
use Rattle.element_writers.specs.ClassFits.{pairs-fit}
use Rattle.element_writers.proofs.class_of_ms.fits.Goals as goal

pub returns : goal.returns
unfolding class_fits
returns c =
    let vs = class_fields c.args.m in
    all_from_yields_List (λ (p : ℕ × ℕ). in_width p.1 p.0) c.all.new.self _ _ c.all.ensures.ran (YieldsList-from_zip (YieldsList-from_slice vs cc) (YieldsList-from_slice class_widths cc)) (λ x b q k. search (rules, tests))
    ∙ pairs-fit vs class_widths
