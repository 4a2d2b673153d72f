-- What the message that a number names tells of the number.
use Rattle.std.specs.Prelude.{ℕ, ◌≡◌, refl, Bool, true, false, cond, List, [], ◌∷◌, eqb, Some}
use Rattle.std.proofs.Common.{eqb-true}
use Rattle.bits.specs.ReaderLaws.{zero_one}
use Rattle.messages.specs.Calls.{all_messages, type_of, message_among, message_of}
use Rattle.messages.specs.declared.Message.{Message}

type_among : (ms : List Message) (n : ℕ) {m : Message} → message_among ms n ≡ Some m → n ≡ type_of m
unfolding message_among
type_among [] n e = zero_one (cc)
type_among (k ∷ ks) n {m} e = go (eqb n (type_of k)) refl (λ q. type_among ks n q) e
  where
    go : (b : Bool) → eqb n (type_of k) ≡ b → (message_among ks n ≡ Some m → n ≡ type_of m) → cond b (Some k) (message_among ks n) ≡ Some m → n ≡ type_of m
    go true h others e = let same : k ≡ m = cc in rw (← same) (eqb-true n (type_of k) h)
    go false h others e = others e

-- it is the message's type
pub type_named : (n : ℕ) {m : Message} → message_of n ≡ Some m → n ≡ type_of m
unfolding message_of
type_named n e = type_among all_messages n e
