-- `elements::typed_pdu_fields::read_kept` meets its contract.
use native.Mathlib.Omega.{arith}
use Rattle.std.specs.Prelude.{ℕ, ◌-◌, ◌≡◌, min, true, leb}
use Rattle.std.proofs.Common.{le-leb}
use Rattle.bits.specs.Bits.{Bits}
use Rattle.bits.specs.Reader.{got, ◌>>=◌, word, pass}
use Rattle.bits.specs.ReaderLaws.{local·rules}
use Rattle.bits.specs.PlacedLaws.{so, from, handed_up, step, stop, done}
use Rattle.bits.specs.PlacedTimes.{alike}
use Rattle.elements.specs.Generics.{data_width, kept}
use Rattle.elements.proofs.typed_pdu_fields.read_kept.Goals as goal

-- the width that the code takes
kept-is : (n w : ℕ) → w ≡ min n data_width → (bs : Bits) → kept n bs ≡ (word data_width w >>= λ d. pass (n - w) >>= λ z. got d) bs
unfolding kept word
kept-is n w e bs =
    let enough : leb w data_width ≡ true = le-leb w data_width (omega arith) in
    let less : n - w ≡ n - data_width = omega arith in
    rw (enough, less, e)

pub returns-in_err-v : goal.returns-in_err-v
returns-in_err-v c = handed_up _ c.from_residual.ensures.1 (alike _ (kept-is _ _ c.min-w.ensures _) (stop _ (from c.in_err-v.ensures)))

pub returns-in_err-c2 : goal.returns-in_err-c2
returns-in_err-c2 c =
    handed_up _ c.from_residual-in_err-c2.ensures.1
    (alike _ (kept-is _ _ c.min-w.ensures _) (step _ (from c.in_ok-v.ensures) (search local·rules) (stop _ (from c.in_err-c2.ensures))))

pub returns : goal.returns
returns c =
    so (alike _ (kept-is _ _ c.min-w.ensures _)
    (step _ (from c.in_ok-v.ensures) (search local·rules) (step _ (from c.in_ok-c2.ensures) (search local·rules) done)))
