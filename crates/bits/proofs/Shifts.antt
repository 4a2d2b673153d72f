-- What the code's shifts give. Assumes nothing.
use Prim.Native.Nat.{ℕ, ◌+◌, ◌*◌, ◌/◌, ◌%◌, ◌^◌, ◌≤◌, ◌<◌}
use native.Mathlib.Nat.{div-lt_iff_lt-mul, le-div_iff_mul-le, one-mul}
use native.Mathlib.Omega.{arith}
use mathlib.Core.Path.{◌≡◌, ◌∙◌, subst}
use lib.Dec.{lit<}
use lib.Pow.{pow_pos, shl_exact}
use lib.Bits.{bit_or, or_shifted}

-- a power of two by a shift
pub shl_one : (n : ℕ) → n < 64 → (1 * 2 ^ n) % 2 ^ 64 ≡ 2 ^ n
shl_one n h = shl_exact 1 n 64 (lit< tt) (omega arith) ∙ one-mul (2 ^ n)

-- `(v << n) | x`
pub shift_or : (v d n x : ℕ) → v < 2 ^ d → d + n ≤ 64 → x < 2 ^ n → bit_or ((v * 2 ^ n) % 2 ^ 64) x ≡ v * 2 ^ n + x
shift_or v d n x hv hd hx = rw (shl_exact d n 64 hv hd) (or_shifted v n x hx)

-- what `v >> w` says of v
pub shr_none : (v w : ℕ) → v / 2 ^ w ≤ 0 → v < 2 ^ w
shr_none v w h = subst (λ (m : ℕ). v < m) (one-mul (2 ^ w)) ((div-lt_iff_lt-mul {k = 2 ^ w} {x = v} {y = 1} (pow_pos w)).0 (omega arith))

pub shr_some : (v w : ℕ) → 0 < v / 2 ^ w → 2 ^ w ≤ v
shr_some v w h = subst (λ (m : ℕ). m ≤ v) (one-mul (2 ^ w)) ((le-div_iff_mul-le {k = 2 ^ w} {x = 1} {y = v} (pow_pos w)).0 h)
