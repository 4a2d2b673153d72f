-- `bits::bitbuffer::scatter` meets its contract. The loop's invariant: from bit 8 on stand the digits written so far. Assumes nothing.
use Prim.Native.Nat.{ℕ, ◌+◌, ◌-◌, ◌/◌, ◌%◌, ◌^◌, ◌<◌}
use native.Mathlib.Nat.{mod-lt, div-one}
use native.Mathlib.Omega.{arith}
use mathlib.Core.Path.{◌≡◌, refl, sym, ap, ◌∙◌, subst}
use mathlib.Core.List.{List}
use lib.ListN.{length, set, get_or, length-set}
use lib.Pow.{pow_pos, shr_lt}
use Rattle.bits.specs.Bits.{number, digits}
use Rattle.bits.specs.BitsLaws.{length_digits, number_digits-mod, digits_mod}
use Rattle.bits.specs.Written.{splice, put_bits}
use Rattle.bits.specs.WrittenLaws.{splice_all, length-put_bits, octets-put_bits, put_bits-nil}
use Rattle.bits.proofs.Turn.{put_first, put-more, put_rest}
use Rattle.bits.proofs.bitbuffer.scatter.Goals as goal

pub patch-requires : goal.patch-requires
patch-requires c = (omega arith, c.requires.4)

pub returns-then-stop-le8 : goal.returns-then-stop-le8
returns-then-stop-le8 c =
    let a = c.args in
    put_first a.part.now a.skip a.width a.value c.patch.result (omega arith) (omega arith)
    (λ i. (c.slice_known-1.given i).fits) c.patch.ensures

pub patch-requires-2 : goal.patch-requires-2
patch-requires-2 c =
    let a = c.args in
    let head : ℕ = 8 - a.skip in
    let l : ℕ = a.width - head in
    let e : a.width ≡ head + l = omega arith in
    (omega arith, shr_lt head l (subst (λ (n : ℕ). a.value < 2 ^ n) e c.requires.4))

pub loop-i-init : goal.loop-i-init
unfolding digits
loop-i-init c =
    let a = c.args in
    let h : ℕ = 8 - a.skip in
    let l : ℕ = a.width - h in
    let x : ℕ = a.value / 2 ^ l in
    let os : List ℕ = set a.part.now 0 c.patch-2.result in
    let first : os ≡ put_bits a.part.now a.skip (digits h x) =
    put_first a.part.now a.skip h x c.patch-2.result (omega arith) (omega arith)
    (λ i. (c.slice_known-1.given i).fits) c.patch-2.ensures in
    let none : l - l ≡ 0 = omega arith in (
      omega arith,
      omega arith,
      simp length-set (omega arith),
      sym (ap (λ (n : ℕ). put_bits os 8 (digits n x)) none ∙ put_bits-nil os 8 (rw first (octets-put_bits a.part.now a.skip (digits h x)))),
    )

pub loop-i-preserved : goal.loop-i-preserved
loop-i-preserved c =
    let a = c.args in
    let l = c.loop-i in
    let m : ℕ = l.left - 8 in
    let v : ℕ = a.value / 2 ^ m in
    let os₀ : List ℕ = set a.part.now 0 c.patch-2.result in
    let o : ℕ = get_or l.part l.i 0 in
    let e : v % 256 ≡ number (splice (digits 8 o) 0 (digits 8 v)) =
    sym (ap number (splice_all (digits 8 o) (digits 8 v) (length_digits 8 v ∙ sym (length_digits 8 o))) ∙ number_digits-mod 8 v) in (
      omega arith,
      omega arith,
      simp length-set (omega arith),
      rw e (put-more os₀ l.part 8 (a.width - (8 - a.skip)) a.value l.i l.left 8 m
          (omega arith) (omega arith) (omega arith) (omega arith) (omega arith) (omega arith) l.invariant.3),
    )

pub patch-requires-then-left-gt0 : goal.patch-requires-then-left-gt0
patch-requires-then-left-gt0 c =
    let at_end : c.loop-i.i ≡ (c.args.skip + c.args.width) / 8 = omega arith in
    (omega arith, rw c.low.ensures (mod-lt _ (pow_pos c.loop-i.left)))

pub returns-then-left-gt0 : goal.returns-then-left-gt0
returns-then-left-gt0 c =
    let a = c.args in
    let l = c.loop-i in
    let v : ℕ = a.value in
    let n : ℕ = l.left in
    let w : ℕ = a.width - (8 - a.skip) in
    let at_end : l.i ≡ (a.skip + a.width) / 8 = omega arith in
    let e : digits n c.low.result ≡ digits n (v / 2 ^ 0) =
    ap (digits n) c.low.ensures ∙ digits_mod n v ∙ ap (digits n) (sym (div-one v)) in
    put_rest a.part.now _ a.skip a.width v c.patch-2.result 0 (λ i. (c.slice_known-1.given i).fits)
    (omega arith) (omega arith) (omega arith) c.patch-2.ensures refl
    (rw (c.patch-then-left-gt0.ensures, e, ← at_end)
    (put-more (set a.part.now 0 c.patch-2.result) l.part 8 w v l.i n n 0
    (omega arith) (omega arith) (omega arith) (omega arith) (omega arith) (omega arith) l.invariant.3))

pub shape_of-part-then-left-gt0 : goal.shape_of-part-then-left-gt0
shape_of-part-then-left-gt0 c = ap length (returns-then-left-gt0 c) ∙ length-put_bits _ _ _

pub returns-else-left-gt0 : goal.returns-else-left-gt0
returns-else-left-gt0 c =
    let a = c.args in
    let l = c.loop-i in
    put_rest a.part.now l.part a.skip a.width a.value c.patch-2.result l.left (λ i. (c.slice_known-1.given i).fits)
    (omega arith) (omega arith) (omega arith) c.patch-2.ensures (omega arith) l.invariant.3

pub shape_of-part-else-left-gt0 : goal.shape_of-part-else-left-gt0
shape_of-part-else-left-gt0 c = ap length (returns-else-left-gt0 c) ∙ length-put_bits _ _ _
