-- The address of a group read at a cursor: its type, and then the parts that this type has.
use Rattle.std.specs.Prelude.{ℕ, ◌≡◌, refl, Bool, true, false, List}
use Rattle.std.proofs.Common.{sym}
use Rattle.bits.specs.Reader.{field}
use Rattle.bits.specs.ReaderLaws.{local_tail, field-local}
use Rattle.bits.specs.Placed.{Placed, placed, at}
use Rattle.bits.specs.PlacedLaws.{Gives, so, step}
use Rattle.bits.specs.declared.bitbuffer.Cursor.{Cursor}
use Rattle.elements.specs.Groups.{Form, form, address_type_width, address_of, typed_address, form_at, forms_by}
use Rattle.elements.specs.declared.group_address.GroupAddress.{GroupAddress}

-- the form of each type, in both lists
pub type_0 : (all : Bool) → form_at (forms_by all) 0 ≡ form true false false
type_0 true = refl
type_0 false = refl

pub type_1 : (all : Bool) → form_at (forms_by all) 1 ≡ form true true false
type_1 true = refl
type_1 false = refl

pub type_2 : (all : Bool) → form_at (forms_by all) 2 ≡ form false false true
type_2 true = refl
type_2 false = refl

pub type_3 : (all : Bool) → form_at (forms_by all) 3 ≡ form all all all
type_3 true = refl
type_3 false = refl

-- the parts of the type n
pub of_type : (forms : List Form) (n : ℕ) {f : Form} → form_at forms n ≡ f
    → {os : List ℕ} {c : Cursor} {t : ℕ} {k : Cursor} → Gives (field address_type_width) os c (placed t k) → t ≡ n
    → {x : Placed GroupAddress} → x ≡ at (address_of f) os k → x ≡ at (typed_address forms) os c
of_type forms n {f} is {os} {c} {t} {k} e h {x} p =
    so (step (λ t. address_of (form_at forms t)) e (local_tail (field-local address_type_width)) (record { eq = rw (h, is) (sym p) }))
