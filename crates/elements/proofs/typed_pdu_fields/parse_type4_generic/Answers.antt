-- `elements::typed_pdu_fields::parse_type4_generic` meets its contract.
use native.Mathlib.Omega.{arith}
use Rattle.std.specs.Prelude.{ℕ, ◌≤◌, ◌<◌, true, List}
use Rattle.bits.specs.Reader.{Reader, got, ◌>>=◌, field, word}
use Rattle.bits.specs.ReaderLaws.{local·rules, local_tail, field-local}
use Rattle.bits.specs.Placed.{Placed, placed}
use Rattle.bits.specs.PlacedLaws.{Gives, so, from, handed_up, step, stop, done}
use Rattle.bits.specs.PlacedTimes.{alike}
use Rattle.bits.specs.declared.bitbuffer.Cursor.{Cursor}
use Rattle.elements.specs.Generics.{entries, kept_entries, type4}
use Rattle.elements.specs.Table.{length_width}
use Rattle.elements.proofs.GenericsLaws.{kept-local}
use Rattle.elements.specs.Rows.{sized, from_type4, generic_type4_at}
use Rattle.elements.proofs.PlacedLists.{entries_unnumbered, entries_underflow, entries-there, entries-made}
use Rattle.elements.specs.declared.typed_pdu_fields.Generic.{Generic}
use Rattle.elements.proofs.typed_pdu_fields.parse_type4_generic.Goals as goal

-- what stands behind the number of entries, as the code holds it
abbrev held : ℕ → ℕ → Reader Generic
held m n = kept_entries m n >>= λ g. got (from_type4 (record { present = true; value = g }))

counted : {os : List ℕ} {c c₁ : Cursor} {n : ℕ} {x : Placed Generic} → Gives (field length_width) os c (placed n c₁) → Gives (entries held n) os c₁ x
    → Gives (sized generic_type4_at) os c x
unfolding type4
counted e g = alike (sized (entries held)) (entries-made kept_entries _ _) (step _ e (local_tail (field-local length_width)) g)

pub returns-in_err-len : goal.returns-in_err-len
unfolding type4 word
returns-in_err-len c = handed_up _ c.from_residual.ensures.1 (stop _ (from c.in_err-len.ensures))

pub returns-in_err-elems : goal.returns-in_err-elems
unfolding type4 word
returns-in_err-elems c =
    handed_up _ c.from_residual-in_err-elems.ensures.1
    (counted (from c.in_ok-len.ensures) (entries_unnumbered held _ (from c.in_err-elems.ensures)))

pub returns-then-len-lt6 : goal.returns-then-len-lt6
unfolding type4 word
returns-then-len-lt6 c =
    let few : c.in_ok-len.len < 6 = omega (arith, c.if-len-lt6.true) in
    so (counted (from c.in_ok-len.ensures) (entries_underflow held _ (from c.in_ok-elems.ensures) few))

pub returns-in_err-data : goal.returns-in_err-data
unfolding type4 word
returns-in_err-data c =
    let enough : 6 ≤ c.in_ok-len.len = omega (arith, c.if-len-lt6.false) in
    handed_up _ c.from_residual-in_err-data.ensures.1
    (counted (from c.in_ok-len.ensures) (entries-there held _ (from c.in_ok-elems.ensures) enough
    (stop _ (stop _ (from c.in_err-data.ensures)))))

pub returns : goal.returns
unfolding type4 word
returns c =
    let enough : 6 ≤ c.in_ok-len.len = omega (arith, c.if-len-lt6.false) in
    so
    (counted (from c.in_ok-len.ensures) (entries-there held _ (from c.in_ok-elems.ensures) enough
    (step _ (step _ (from c.in_ok-data.ensures) (search (local·rules, kept-local)) done) (search (local·rules, kept-local)) done)))
