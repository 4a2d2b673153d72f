-- Each reader is local, and so is what the combinators make of local readers; two readings of one beginning; and readers that follow one
-- another, bit by bit.
use Prim.Native.Nat.{ℕ, zero, suc, ◌+◌, ◌^◌, ◌≤◌, ◌<◌}
use Rattle.std.proofs.Common.{arith, sym, ap, ◌∙◌, length-append, take-append-drop, take_at, drop_at, length-take-le, leb-true, le-leb, eqb-true, eq-eqb}
use Rattle.std.specs.Prelude.{◌≡◌, refl, Bool, true, false, cond, length, take, drop, leb, eqb}
use mathlib.Core.List.{List, [], ◌∷◌, ◌++◌, append_assoc, append_cancel_right}
use Rattle.std.proofs.lemmas.Bool.{lt-leb}
use Rattle.bits.specs.PduParseError.{buffer_ended, inconsistent_length}
use Rattle.bits.specs.Bits.{Bits, number, digits}
use Rattle.bits.specs.BitsLaws.{number-take_lt, length_digits, number_digits}
use Rattle.bits.specs.Reader.{Answer, got, refused, Reader, then, ◌>>=◌, field, word, pass, unless, optional, exactly, times, Local, Tail}
use Rattle.bits.specs.declared.pdu_parse_error.PduParseErr.{PduParseErr}

-- two constructors are never equal: of such an equation `cc` makes 0 ≡ 1
pub zero_one : {P : Type 0} → ◌≡◌ {A = ℕ} 0 1 → P
zero_one z = absurd (omega arith)

pub refused-got : {A B : Type 0} {n : PduParseErr} {a : A} {rest : Bits} → refused n ≡ got a rest → B
refused-got e = zero_one (cc)

pub got-refused : {A B : Type 0} {n : PduParseErr} {a : A} {rest : Bits} → got a rest ≡ refused n → B
got-refused e = refused-got (sym e)

pub refused-same : {A : Type 0} {m n : PduParseErr} → ◌≡◌ {A = Answer A} (refused m) (refused n) → m ≡ n
refused-same e = cc

-- what a value from two readers in turn rests on (what is learnt is bound by a λ, so that it does not unfold)
pub split-then : {A B P : Type 0} (x : Answer A) (f : A → Reader B) {b : B} {rest : Bits} → then x f ≡ got b rest
    → ((a : A) (mid : Bits) → x ≡ got a mid → f a mid ≡ got b rest → P) → P
split-then (got a mid) f e k = k a mid refl e
split-then (refused n) f e k = refused-got e

-- three, one after the other
pub then-then : {A B C : Type 0} (x : Answer A) (f : A → Reader B) (g : B → Reader C) → then (then x f) g ≡ then x (λ a. f a >>= g)
then-then (got a rest) f g = refl
then-then (refused n) f g = refl

-- the next by what it does
pub then_same : {A B : Type 0} (x : Answer A) {f g : A → Reader B} → ((a : A) (rest : Bits) → f a rest ≡ g a rest) → then x f ≡ then x g
then_same (got a rest) e = e a rest
then_same (refused n) e = refl

-- two chains behind one answer, by what they do next
pub then-both : {A B C X : Type 0} (x : Answer A) (f : A → Reader B) (h : B → Reader X) (g : A → Reader C) (k : C → Reader X)
    → ((a : A) (rest : Bits) → then (f a rest) h ≡ then (g a rest) k) → then (then x f) h ≡ then (then x g) k
then-both x f h g k e = then-then x f h ∙ then_same x e ∙ sym (then-then x g k)

pub local_tail : {A : Type 0} {r : Reader A} → Local r → Tail r
local_tail l = record { at = λ bs a rest e. let u = l.at bs a rest e in (u.used, u.split) }

-- what a local reader gives it gives whatever more there is
pub local-more : {A : Type 0} {r : Reader A} → Local r → (bs zs : Bits) {a : A} {rest : Bits} → r bs ≡ got a rest → r (bs ++ zs) ≡ got a (rest ++ zs)
local-more l bs zs {a} {rest} e =
    let u = l.at bs a rest e in
    rw (u.split, append_assoc u.used rest zs) (u.any (rest ++ zs))

pub got-local : {A : Type 0} (x : A) → Local (λ bs. got x bs)
got-local x = record { at = λ bs a rest e. record { used = []; split = cc; any = λ zs. let h : x ≡ a = cc in rw h } }

pub refused-local : {A : Type 0} (n : PduParseErr) → Local {A = A} (λ bs. refused n)
refused-local n = record { at = λ bs a rest e. refused-got e }

joined : (u v rest : Bits) {bs mid : Bits} → bs ≡ u ++ mid → mid ≡ v ++ rest → bs ≡ (u ++ v) ++ rest
joined u v rest p q = p ∙ ap (λ (l : Bits). u ++ l) q ∙ sym (append_assoc u v rest)

-- what a value of two readers in turn tells, of what the value of each tells
bound : {A B : Type 0} (r : Reader A) (f : A → Reader B) {R : Bits → A → Bits → Type 0} {F : A → Bits → B → Bits → Type 0} {T : Bits → B → Bits → Type 0}
    → ((bs : Bits) (a : A) (rest : Bits) → r bs ≡ got a rest → R bs a rest)
    → ((a : A) (bs : Bits) (b : B) (rest : Bits) → f a bs ≡ got b rest → F a bs b rest)
    → ((bs mid rest : Bits) (a : A) (b : B) → R bs a mid → F a mid b rest → T bs b rest)
    → (bs : Bits) (b : B) (rest : Bits) → (r >>= f) bs ≡ got b rest → T bs b rest
bound r f lr lf join bs b rest e = split-then (r bs) f e (λ a mid p q. join bs mid rest a b (lr bs a mid p) (lf a mid b rest q))

pub bind_local : {A B : Type 0} (r : Reader A) (f : A → Reader B) → Local r → ((a : A) → Local (f a)) → Local (r >>= f)
bind_local r f lr lf = record {
  at = bound r f lr.at (λ a. (lf a).at) (λ bs mid rest a b u v. record {
    used = u.used ++ v.used;
    split = joined u.used v.used rest u.split v.split;
    any = λ zs. rw (append_assoc u.used v.used zs, u.any) (v.any zs);
  });
}

pub bind_tail : {A B : Type 0} (r : Reader A) (f : A → Reader B) → Tail r → ((a : A) → Tail (f a)) → Tail (r >>= f)
bind_tail r f lr lf = record { at = bound r f lr.at (λ a. (lf a).at) (λ bs mid rest a b u v. (u.0 ++ v.0, joined u.0 v.0 rest u.1 v.1)) }

-- ## fields

pub field-enough : (w : ℕ) (bs : Bits) → w ≤ length bs → field w bs ≡ got (number (take w bs)) (drop w bs)
unfolding field
field-enough w bs h = rw (le-leb w (length bs) h)

pub field-short : (w : ℕ) (bs : Bits) → length bs < w → field w bs ≡ refused buffer_ended
unfolding field
field-short w bs h = rw (lt-leb w (length bs) h)

pub record FieldGot (w : ℕ) (bs : Bits) (v : ℕ) (rest : Bits) : Type 0 where
  pub enough : w ≤ length bs
  pub value : v ≡ number (take w bs)
  pub left : rest ≡ drop w bs

pub field-got : (w : ℕ) (bs : Bits) {v : ℕ} {rest : Bits} → field w bs ≡ got v rest → FieldGot w bs v rest
unfolding field
field-got w bs {v} {rest} e = go (leb w (length bs)) refl e
  where
    go : (b : Bool) → leb w (length bs) ≡ b → cond b (got (number (take w bs)) (drop w bs)) (refused buffer_ended) ≡ got v rest → FieldGot w bs v rest
    go true h e = record { enough = leb-true _ _ h; value = cc; left = cc }
    go false h e = refused-got e

pub field-local : (w : ℕ) → Local (field w)
field-local w = record {
  at = λ bs v rest e.
      let g = field-got w bs e in
      let u : Bits = take w bs in
      let l : length u ≡ w = length-take-le w bs g.enough in
      record {
        used = u;
        split = rw g.left (sym (take-append-drop w bs));
        any = λ zs.
            field-enough w (u ++ zs) (omega (arith, length-append u zs))
            ∙ rw (take_at u zs w l, drop_at u zs w l, g.value);
      };
}

-- a field fits its width
pub field_lt : (w : ℕ) (bs : Bits) {v : ℕ} {rest : Bits} → field w bs ≡ got v rest → v < 2 ^ w
field_lt w bs e = rw (field-got w bs e).value (number-take_lt w bs)

-- a number that was written in w bits is read from them
pub field_back : (w v : ℕ) (rest : Bits) → v < 2 ^ w → field w (digits w v ++ rest) ≡ got v rest
field_back w v rest h =
    let l : length (digits w v) ≡ w = length_digits w v in
    field-enough w (digits w v ++ rest) (omega (arith, length-append (digits w v) rest))
    ∙ rw (take_at (digits w v) rest w l, drop_at (digits w v) rest w l, number_digits w v h)

pub word-local : (n w : ℕ) → Local (word n w)
unfolding word
word-local n w = go (leb w n)
  where
    go : (b : Bool) → Local (λ bs. cond b (field w bs) (refused buffer_ended))
    go true = field-local w
    go false = refused-local buffer_ended

pub pass-local : (w : ℕ) → Local (pass w)
unfolding pass
pass-local w = bind_local (field w) _ (field-local w) (λ v. got-local tt)

-- ## tests, lengths, repetition

pub unless-local : (b : Bool) (n : PduParseErr) → Local (unless b n)
unless-local true n = got-local tt
unless-local false n = refused-local n

-- what holds of a value given, and of one reader and then the next, holds of what is made of them
module _ (P : (A : Type 0) → Reader A → Type 0) (given : (A : Type 0) (x : A) → P A (λ bs. got x bs))
    (bound : (A B : Type 0) (r : Reader A) (f : A → Reader B) → P A r → ((a : A) → P B (f a)) → P B (r >>= f)) where
  pub optional-made : {A B : Type 0} (present : A → B) (absent : B) (b : Bool) (r : Reader A) → P A r → P B (optional present absent b r)
  optional-made present absent true r l = bound _ _ r _ l (λ a. given _ (present a))
  optional-made present absent false r l = given _ absent

  pub times-made : {A : Type 0} (k : ℕ) (r : Reader A) → P A r → P (List A) (times k r)
  unfolding times
  times-made zero r l = given _ []
  times-made (suc k) r l = bound _ _ r _ l (λ a. bound _ _ (times k r) _ (times-made k r l) (λ xs. given _ (a ∷ xs)))

pub optional-local : {A B : Type 0} (present : A → B) (absent : B) (b : Bool) (r : Reader A) → Local r → Local (optional present absent b r)
optional-local = optional-made (λ A. Local) (λ A. got-local) (λ A B. bind_local)

pub times-local : {A : Type 0} (k : ℕ) (r : Reader A) → Local r → Local (times k r)
times-local = times-made (λ A. Local) (λ A. got-local) (λ A B. bind_local)

pub record ExactlyGot {A : Type 0} (n : ℕ) (r : Reader A) (bs : Bits) (a : A) (rest : Bits) : Type 0 where
  pub inner : r bs ≡ got a rest
  pub long : length bs ≡ n + length rest

-- a reader held to n bits used n bits
pub exactly-got : {A : Type 0} (n : ℕ) (r : Reader A) (bs : Bits) {a : A} {rest : Bits} → exactly n r bs ≡ got a rest → ExactlyGot n r bs a rest
exactly-got {A} n r bs {a} {rest} e = split-then (r bs) _ e (λ x mid p q. go x mid p (eqb (length bs) (n + length mid)) refl q)
  where
    go : (x : A) (mid : Bits) → r bs ≡ got x mid → (b : Bool) → eqb (length bs) (n + length mid) ≡ b
        → then (unless b inconsistent_length mid) (λ z. got x) ≡ got a rest → ExactlyGot n r bs a rest
    go x mid p true h q = let m : mid ≡ rest = cc in record { inner = cc; long = rw (← m) (eqb-true _ _ h) }
    go x mid p false h q = refused-got q

pub exactly-local : {A : Type 0} (n : ℕ) (r : Reader A) → Local r → Local (exactly n r)
exactly-local n r l = record {
  at = λ bs a rest e.
      let x = exactly-got n r bs e in
      let u = l.at bs a rest x.inner in
      let m : length bs ≡ length u.used + length rest = ap length u.split ∙ length-append u.used rest in
      record {
        used = u.used;
        split = u.split;
        any = λ zs.
            let h : length (u.used ++ zs) ≡ n + length zs = omega (arith, length-append u.used zs) in
            rw (u.any, eq-eqb _ _ h);
      };
}

-- ## two readings of one beginning

pub data Agree {A : Type 0} (x y : Answer A) (zs zs' : Bits) : Type 0 where
  both : (a : A) → x ≡ got a zs → y ≡ got a zs' → Agree x y zs zs'
  neither : (m n : PduParseErr) → x ≡ refused m → y ≡ refused n → Agree x y zs zs'

-- r, which uses u wherever it gives a value, reads u alike before any two endings
module _ {A : Type 0} {r : Reader A} (l : Local r) (u : Bits) (uses : (zs : Bits) (a : A) (rest : Bits) → r (u ++ zs) ≡ got a rest → rest ≡ zs) where
  moved : (zs zs' : Bits) {a : A} → r (u ++ zs) ≡ got a zs → r (u ++ zs') ≡ got a zs'
  moved zs zs' {a} e =
      let v = l.at (u ++ zs) a zs e in
      let same : v.used ≡ u = append_cancel_right v.used u zs (sym v.split) in
      rw same at (v.any zs')

  pub agree : (zs zs' : Bits) → Agree (r (u ++ zs)) (r (u ++ zs')) zs zs'
  agree zs zs' = go (r (u ++ zs)) refl (r (u ++ zs')) refl
    where
      go : (x : Answer A) → r (u ++ zs) ≡ x → (y : Answer A) → r (u ++ zs') ≡ y → Agree (r (u ++ zs)) (r (u ++ zs')) zs zs'
      go (got a rest) p y q = let p' = rw (uses zs a rest p) at p in both a p' (moved zs zs' p')
      go (refused m) p (got a rest) q = refused-got (sym p ∙ moved zs' zs (rw (uses zs' a rest q) at q))
      go (refused m) p (refused n) q = neither m n p q

-- ## a reader that follows another

-- FOLLOWS: where r gives a value, w gives g of it and leaves the same rest
pub record Follows {A B : Type 0} (r : Reader A) (w : Reader B) (g : A → B) : Type 0 where
  pub at : (bs : Bits) (a : A) (rest : Bits) → r bs ≡ got a rest → w bs ≡ got (g a) rest

-- PASSES: where r gives a value, it has used n bits
abbrev pub Passes : {A : Type 0} → ℕ → Reader A → Type 0
Passes n r = Follows r (pass n) (λ a. tt)

-- n bits stand before rest
record Before (n : ℕ) (bs rest : Bits) : Type 0 where
  used : Bits
  split : bs ≡ used ++ rest
  long : length used ≡ n

pass-before : {n : ℕ} {bs rest : Bits} → Before n bs rest → pass n bs ≡ got tt rest
unfolding pass
pass-before {n} {bs} {rest} b =
    let u : Bits = b.used in
    rw b.split (rw (field-enough n (u ++ rest) (omega (arith, b.long, length-append u rest))) (rw (drop_at u rest n b.long)))

pass-got : (n : ℕ) (bs : Bits) {z : Unit} {rest : Bits} → pass n bs ≡ got z rest → Before n bs rest
unfolding pass
pass-got n bs {z} {rest} e = split-then (field n bs) _ e (λ v mid p q.
    let g = field-got n bs p in
    let h : rest ≡ drop n bs = cc g.left in
    record { used = take n bs; split = rw h (sym (take-append-drop n bs)); long = length-take-le n bs g.enough })

pub same_follows : {A : Type 0} (r : Reader A) → Follows r r (λ a. a)
same_follows r = record { at = λ bs a rest e. e }

pub pass-passes : (n : ℕ) → Passes n (pass n)
pass-passes n = same_follows (pass n)

pub field-passes : (w : ℕ) → Passes w (field w)
unfolding pass
field-passes w = record { at = λ bs v rest e. rw e }

pub got-passes : {A : Type 0} (x : A) → Passes 0 (λ bs. got x bs)
got-passes x = record { at = λ bs a rest e. pass-before (record { used = []; split = cc; long = refl }) }

-- a reader held to n bits
pub exactly-passes : {A : Type 0} (n : ℕ) (r : Reader A) → Tail r → Passes n (exactly n r)
exactly-passes n r t = record {
  at = λ bs a rest e.
      let x = exactly-got n r bs e in
      let u = t.at bs a rest x.inner in
      pass-before (record { used = u.0; split = u.1; long = omega (arith, x.long, ap length u.1, length-append u.0 rest) });
}

-- n bits are m bits and l more
pub bind_passes : {A B : Type 0} (m l : ℕ) {n : ℕ} (r : Reader A) (f : A → Reader B) → m + l ≡ n → Passes m r → ((a : A) → Passes l (f a)) → Passes n (r >>= f)
bind_passes m l {n} r f s pr pf = record {
  at = λ bs b rest e. split-then (r bs) f e (λ a mid p q.
      let u = pass-got m bs (pr.at bs a mid p) in
      let v = pass-got l mid ((pf a).at mid b rest q) in
      pass-before (record {
        used = u.used ++ v.used;
        split = joined u.used v.used rest u.split v.split;
        long = omega (arith, u.long, v.long, length-append u.used v.used);
      }));
}

pub bind_follows : {A A' B B' : Type 0} (r : Reader A) (w : Reader A') (g : A → A') (f : A → Reader B) (f' : A' → Reader B') (k : B → B')
    → Follows r w g → ((a : A) → Follows (f a) (f' (g a)) k) → Follows (r >>= f) (w >>= f') k
bind_follows r w g f f' k h hf = record { at = λ bs b rest e. split-then (r bs) f e (λ a mid p q. rw (h.at bs a mid p) ((hf a).at mid b rest q)) }

pub got_follows : {A B : Type 0} (a : A) (g : A → B) → Follows (λ bs. got a bs) (λ bs. got (g a) bs) g
got_follows a g = record { at = λ bs x rest e. cc }

-- r alone asks the test; what r does then may rest on it
pub unless_follows : {A B : Type 0} (b : Bool) (n : PduParseErr) (f : Unit → Reader A) (w : Reader B) {g : A → B} → (b ≡ true → Follows (f tt) w g) → Follows (unless b n >>= f) w g
unless_follows true n f w h = h refl
unless_follows false n f w h = record { at = λ bs a rest e. refused-got e }

-- the same where the test stands second
pub unless-passes : {A B : Type 0} (b : Bool) (n : PduParseErr) (m : ℕ) (r : Reader A) (f : A → Reader B) → (b ≡ true → Passes m (r >>= f)) → Passes m (r >>= λ a. unless b n >>= λ z. f a)
unless-passes true n m r f h = h refl
unless-passes false n m r f h = record { at = λ bs a rest e. split-then (r bs) _ e (λ x mid p q. refused-got q) }

pub optional_follows : {A B : Type 0} (present : A → B) (absent : B) (b : Bool) (r : Reader A) (w : Reader Unit) → Follows r w (λ a. tt)
    → Follows (optional present absent b r) (optional {B = Unit} (λ z. tt) tt b w) (λ x. tt)
optional_follows present absent true r w h = bind_follows r w _ _ _ _ h (λ a. got_follows (present a) _)
optional_follows present absent false r w h = got_follows absent _

-- what r reads, w passes
pub by-pass : {A B C : Type 0} (r : Reader A) (w : Reader Unit) (f : A → Reader B) (f' : Unit → Reader C) {k : B → C}
    → Follows r w (λ a. tt) → ((a : A) → Follows (f a) (f' tt) k) → Follows (r >>= f) (w >>= f') k
by-pass r w f f' h hf = bind_follows r w _ f f' _ h hf

-- both read the same
pub by-same : {A B C : Type 0} (r : Reader A) (f : A → Reader B) (f' : A → Reader C) {k : B → C}
    → ((a : A) → Follows (f a) (f' a) k) → Follows (r >>= f) (r >>= f') k
by-same r f f' hf = bind_follows r r _ f f' _ (same_follows r) hf

-- with these, `search` proves a reader made of the combinators local in one line
pub ruleset local·rules =
    (local_tail, bind_local, field-local, word-local, pass-local, got-local, refused-local, unless-local, optional-local, times-local, exactly-local)

-- and with these, a head that follows its layout
pub ruleset follows·rules =
    (same_follows, pass-passes, field-passes, got-passes, exactly-passes, got_follows, unless_follows, optional_follows, by-pass, by-same)
