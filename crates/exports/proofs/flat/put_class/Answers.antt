-- `exports::flat::put_class` meets its contract.
use native.Mathlib.Omega.{arith}
use mathlib.Core.Path.{refl}
use lib.Seq.{take_all}
use Rattle.exports.specs.Flat.{flat_field}
use Rattle.exports.specs.FlatLaws.{◌⨟◌, shown_none, shown-more}
use Rattle.exports.proofs.flat.put_class.Goals as goal

pub loop-value-init : goal.loop-value-init
loop-value-init c = shown_none (flat_field c.args.o.present) 9 c.fields-values.result _ _ _

pub put_field-place-requires : goal.put_field-place-requires
put_field-place-requires c =
    let f = c.put_flag-place.ensures in
    let l = c.loop-value in
    omega (arith, f.next, f.long, l.invariant.place, l.invariant.things.long)

pub loop-value-preserved : goal.loop-value-preserved
loop-value-preserved c =
    shown-more (flat_field c.args.o.present) 9 (λ g. refl) {gs = c.fields-values.result} c.loop-value.invariant c.loop-value-test.true (omega arith) _ c.put_field-place.ensures

pub returns : goal.returns
returns c =
    let l = c.loop-value in
    let all = take_all l.value-index c.fields-values.result (omega arith) in
    c.put_flag-place.ensures ⨟ (rw (← c.fields-values.ensures, ← all) l.invariant.things)
