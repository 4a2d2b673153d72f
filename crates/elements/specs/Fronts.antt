-- A slot in two parts: what stands before its content, and the content; and a list of groups likewise.
use Rattle.std.specs.Prelude.{ℕ, Bool, true, false, Option, None, Some}
use Rattle.bits.specs.Reader.{Reader, got, exactly}
use Rattle.elements.specs.Table.{slot}
use Rattle.elements.specs.Generics.{entries}
use Rattle.elements.specs.Lists.{Groups, list_of, groups_read}
use Rattle.elements.specs.declared.typed_pdu_fields.ListFront.{ListFront}

-- the length of the element in a slot, if it stands there; its content is left
unfoldable pub slot_front : ℕ → Reader (Option ℕ)
slot_front i = slot (λ i. i) (λ i n. got n) i

-- the front of a list of m groups in n bits, and that of a list element of n bits
abbrev pub front_of : ℕ → ℕ → Reader ListFront
front_of m n = got (record { count = m; len = n })

abbrev pub front_at : ℕ → Reader ListFront
front_at = entries front_of

-- the front in a slot, where there is one
unfoldable pub list_front : ℕ → Bool → Reader (Option ListFront)
list_front i true = slot (λ i. i) (λ i. front_at) i
list_front i false = got None

-- the groups behind a front; where there is none the list is absent
abbrev pub behind_front : {G L : Type 0} → Groups G L → Option ListFront → Reader L
behind_front k None = got (list_of k None)
behind_front k (Some f) = exactly f.len (groups_read k f.count)
