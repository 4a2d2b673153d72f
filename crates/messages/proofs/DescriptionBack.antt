-- What a description writes before the listed elements is read back, and what is read of them is its own normal form.
use Rattle.std.specs.Prelude.{ℕ, ◌≡◌, refl, Bool, true, false, cond, List, [], ◌∷◌, ◌++◌, eqb, is_some, option_map, Option, None, Some}
use Rattle.std.proofs.Common.{sym, ap, ◌∙◌, append_assoc}
use Rattle.std.specs.Bool.{beq}
use Rattle.bits.specs.Bits.{Bits, bit, digits}
use Rattle.bits.specs.BitsLaws.{bit_lt}
use Rattle.bits.specs.Reader.{Reader, got, ◌>>=◌, field, optional}
use Rattle.bits.specs.ReaderLaws.{split-then, field_back}
use Rattle.elements.specs.Numbers.{held, in_width, optional_number, option_bits, option_all, u64_of, in_u64, flag_width, type2, type2_bits, announced}
use Rattle.elements.proofs.NumbersLaws.{never, both, neither, number-back, optional_number-back, held-option}
use Rattle.messages.specs.Head.{pdu_type_width, pdu_type}
use Rattle.messages.proofs.HeadLaws.{type_back, announced-back}
use Rattle.messages.specs.Questions.{Question, fits, ciphered}
use Rattle.messages.specs.Description.{Field, number, switched, Type2, Description, Fields, Options, no_options, read_fields, read_options, options_behind, read_head, fields_bits, options_bits, any_option, head_bits, field_asked, fields_asked, options_asked, fields_normal, options_normal, SameHeld, SameFields, SameOptions}
use Rattle.messages.specs.declared.Headed.{Headed}
use Rattle.messages.proofs.DescriptionLaws.{of_reading, Readable, Sound, AllSound}

-- ## the answers, taken apart

pub fields-first : (f : Field) (fs : List Field) (vs : Fields (f ∷ fs)) (q : Question) → fields_asked (f ∷ fs) vs q ≡ true → field_asked f vs.0 q ≡ true
unfolding fields_asked
fields-first f fs vs q y = (both (field_asked f vs.0 q) _ y).0

pub fields-others : (f : Field) (fs : List Field) (vs : Fields (f ∷ fs)) (q : Question) → fields_asked (f ∷ fs) vs q ≡ true → fields_asked fs vs.1 q ≡ true
unfolding fields_asked
fields-others f fs vs q y = (both (field_asked f vs.0 q) _ y).1

-- ## read back

pub fields-append : (fs : List Field) (vs : Fields fs) (xs rest : Bits) → fields_bits fs vs xs ++ rest ≡ fields_bits fs vs (xs ++ rest)
unfolding fields_bits
fields-append [] vs xs rest = refl
fields-append (number w ∷ fs) vs xs rest = append_assoc (digits w vs.0) _ rest ∙ ap (λ (l : Bits). digits w vs.0 ++ l) (fields-append fs vs.1 xs rest)
fields-append (switched w ∷ fs) vs xs rest =
    let o : Bits = option_bits (digits w) (in_u64 vs.0.1) in
    append_assoc (digits flag_width vs.0.0) _ rest
    ∙ ap (λ (l : Bits). digits flag_width vs.0.0 ++ l) (append_assoc o _ rest ∙ ap (λ (l : Bits). o ++ l) (fields-append fs vs.1 xs rest))

pub options-append : (cs : List Type2) (os : Options cs) (xs rest : Bits) → options_bits cs os xs ++ rest ≡ options_bits cs os (xs ++ rest)
unfolding options_bits
options-append [] os xs rest = refl
options-append (c ∷ cs) os xs rest =
    append_assoc (type2_bits c.bits (c.held os.0)) _ rest ∙ ap (λ (l : Bits). type2_bits c.bits (c.held os.0) ++ l) (options-append cs os.1 xs rest)

-- a flag says whether the number behind it is there
there : (b p : Bool) (v : ℕ) → beq p b ≡ true → b ≡ is_some (held p v)
there true true v e = refl
there true false v e = never e
there false true v e = never e
there false false v e = refl

fields-back : {B : Type 0} (fs : List Field) (k : Fields fs → Reader B) (vs : Fields fs) → Readable (fields_asked fs vs) → (rest : Bits)
    → read_fields fs k (fields_bits fs vs rest) ≡ k (fields_normal fs vs) rest
unfolding read_fields fields_bits fields_normal
fields-back [] k vs y rest = refl
fields-back (number w ∷ fs) k vs y rest =
    rw (number-back w vs.0 (fields-first (number w) fs vs fits (y fits refl)) _)
    (fields-back fs _ vs.1 (λ q r. fields-others (number w) fs vs q (y q r)) rest)
fields-back (switched w ∷ fs) k vs y rest =
    let first = λ (q : Question) (r : of_reading q ≡ true). fields-first (switched w) fs vs q (y q r) in
    let tests = both (in_width flag_width vs.0.0) _ (first fits refl) in
    rw (number-back flag_width vs.0.0 tests.0 _)
    (rw (optional_number-back w (eqb vs.0.0 1) (in_u64 vs.0.1) (there (eqb vs.0.0 1) vs.0.1.present vs.0.1.value (first ciphered refl)) tests.1 _)
    (fields-back fs _ vs.1 (λ q r. fields-others (switched w) fs vs q (y q r)) rest))

type2-sound-back : (c : Type2) → Sound c → (o : Option c.Value) → ((q : Question) → of_reading q ≡ true → option_all (λ v. c.asked v q) o ≡ true) → (rest : Bits)
    → type2 c.read (type2_bits c.bits o ++ rest) ≡ got (option_map c.normal o) rest
type2-sound-back c s None y rest = rw (append_assoc (digits flag_width 0) [] rest) (rw (field_back flag_width 0 rest (bit_lt false)))
type2-sound-back c s (Some v) y rest =
    rw (append_assoc (digits flag_width 1) (c.bits v) rest) (rw (field_back flag_width 1 (c.bits v ++ rest) (bit_lt true)) (rw (s.back v y rest)))

options-back : {B : Type 0} (cs : List Type2) → AllSound cs → (k : Options cs → Reader B) (os : Options cs) → Readable (options_asked cs os) → (rest : Bits)
    → read_options cs k (options_bits cs os rest) ≡ k (options_normal cs os) rest
unfolding read_options options_bits options_asked options_normal
options-back [] s k os y rest = refl
options-back (c ∷ cs) s k os y rest =
    rw (type2-sound-back c s.0 (c.held os.0) (λ q r. (both (option_all (λ v. c.asked v q) (c.held os.0)) _ (y q r)).0) _)
    (options-back cs s.1 _ os.1 (λ q r. (both (option_all (λ v. c.asked v q) (c.held os.0)) _ (y q r)).1) rest)

-- where none is there
none-present : {A : Type 0} (g : A → A) (o : Option A) → is_some o ≡ false → None ≡ option_map g o
none-present g None e = refl
none-present g (Some a) e = never (sym e)

options-absent : (cs : List Type2) (os : Options cs) → any_option cs os ≡ false → no_options cs ≡ options_normal cs os
unfolding any_option options_normal
options-absent [] os e = refl
options-absent (c ∷ cs) os e =
    let x = neither (is_some (c.held os.0)) (any_option cs os.1) e in
    λ i. (c.stored (none-present c.normal (c.held os.0) x.0 i), options-absent cs os.1 x.1 i)

-- the O-bit and the type 2 elements
behind-back : {T B : Type 0} (cs : List Type2) → AllSound cs → (f : Options cs → T) (k : ℕ → T → Reader B) (os : Options cs) → Readable (options_asked cs os)
    → (more : Bool) → (more ≡ false → any_option cs os ≡ false) → (xs rest : Bits)
    → (field flag_width >>= λ o. options_behind cs f (eqb o 1) >>= k o) (announced more (options_bits cs os xs) ++ rest)
    ≡ k (bit more) (f (options_normal cs os)) (cond more xs [] ++ rest)
unfolding options_bits options_normal
behind-back [] s f k os y more absent xs rest =
    rw (append_assoc (digits flag_width (bit more)) _ rest) (rw (field_back flag_width (bit more) _ (bit_lt more)))
behind-back (c ∷ cs) s f k os y more absent xs rest =
    announced-back (read_options (c ∷ cs) (λ os. got (f os))) (f (no_options (c ∷ cs))) (options_bits (c ∷ cs) os) (f (options_normal (c ∷ cs) os))
    (options-append (c ∷ cs) os) (options-back (c ∷ cs) s (λ os. got (f os)) os y) more (λ e. ap f (options-absent (c ∷ cs) os (absent e))) k xs rest

module _ (d : Description) (s : AllSound d.options) {T H : Type 0} (f : Options d.options → T) (h : Fields d.fields → T → H) where
  -- A HEAD IS READ BACK, in normal form
  pub head-back : in_width pdu_type_width d.type ≡ true → (vs : Fields d.fields) → Readable (fields_asked d.fields vs)
      → (os : Options d.options) → Readable (options_asked d.options os) → (more : Bool) → (more ≡ false → any_option d.options os ≡ false) → (xs rest : Bits)
      → read_head d f h (head_bits d vs more (options_bits d.options os xs) ++ rest)
      ≡ got (record { head = h (fields_normal d.fields vs) (f (options_normal d.options os)); obit = bit more }) (cond more xs [] ++ rest)
  unfolding read_head head_bits
  head-back w vs y os y' more absent xs rest =
      rw (append_assoc (digits pdu_type_width d.type) _ rest, fields-append d.fields vs _ rest)
      (rw (type_back d.type w _)
      (fields-back d.fields _ vs y _
      ∙ behind-back d.options s f (λ o t. got (record { head = h (fields_normal d.fields vs) t; obit = o })) os y' more absent xs rest))

-- ## what is read is its own normal form

fields-read : {B P : Type 0} (fs : List Field) (k : Fields fs → Reader B) (bs : Bits) {b : B} {rest : Bits} → read_fields fs k bs ≡ got b rest
    → ((vs : Fields fs) (mid : Bits) → fields_normal fs vs ≡ vs → k vs mid ≡ got b rest → P) → P
unfolding read_fields fields_normal
fields-read [] k bs e p = p tt bs refl e
fields-read (number w ∷ fs) k bs e p =
    split-then (field w bs) _ e (λ v m r q. fields-read fs _ m q (λ vs mid o t. p (v, vs) mid (λ i. (v, o i)) t))
fields-read (switched w ∷ fs) k bs e p =
    split-then (field flag_width bs) _ e (λ v m r q.
    split-then (optional_number (eqb v 1) w m) _ q (λ o m' r' q'.
    fields-read fs _ m' q' (λ vs mid own t. p ((v, u64_of o), vs) mid (λ i. ((v, u64_of (held-option 0 o i)), own i)) t)))

type2-own : (c : Type2) → Sound c → (bs : Bits) {o : Option c.Value} {rest : Bits} → type2 c.read bs ≡ got o rest → option_map c.normal o ≡ o
type2-own c s bs {o} {rest} e = split-then (field flag_width bs) _ e (λ v m r q. go (eqb v 1) m q)
  where
    go : (b : Bool) (m : Bits) → optional Some None b c.read m ≡ got o rest → option_map c.normal o ≡ o
    go true m q = split-then (c.read m) _ q (λ v m' r q'. let is : Some v ≡ o = cc in rw (← is) (ap Some (s.own m r)))
    go false m q = let is : None ≡ o = cc in rw (← is)

options-read : {B P : Type 0} (cs : List Type2) → AllSound cs → (k : Options cs → Reader B) (bs : Bits) {b : B} {rest : Bits} → read_options cs k bs ≡ got b rest
    → ((os : Options cs) (mid : Bits) → options_normal cs os ≡ os → k os mid ≡ got b rest → P) → P
unfolding read_options options_normal
options-read [] s k bs e p = p tt bs refl e
options-read (c ∷ cs) s k bs e p =
    split-then (type2 c.read bs) _ e (λ o m r q.
    options-read cs s.1 _ m q (λ os mid own t. p (c.stored o, os) mid (λ i. ((ap (λ u. c.stored (option_map c.normal u)) (s.0.held o) ∙ ap c.stored (type2-own c s.0 bs r)) i, own i)) t))

no_options-own : (cs : List Type2) → AllSound cs → options_normal cs (no_options cs) ≡ no_options cs
unfolding options_normal
no_options-own [] s = refl
no_options-own (c ∷ cs) s = λ i. (c.stored (option_map c.normal (s.0.held None i)), no_options-own cs s.1 i)

behind-read : {T P : Type 0} (cs : List Type2) → AllSound cs → (f : Options cs → T) (b : Bool) (bs : Bits) {t : T} {rest : Bits} → options_behind cs f b bs ≡ got t rest
    → ((os : Options cs) → options_normal cs os ≡ os → f os ≡ t → P) → P
unfolding options_normal
behind-read [] s f b bs e p = p tt refl (cc)
behind-read (c ∷ cs) s f true bs e p = options-read (c ∷ cs) s (λ os. got (f os)) bs e (λ os mid own q. p os own (cc))
behind-read (c ∷ cs) s f false bs e p = p (no_options (c ∷ cs)) (no_options-own (c ∷ cs) s) (cc)

module _ (d : Description) (s : AllSound d.options) {T H : Type 0} (f : Options d.options → T) (h : Fields d.fields → T → H) where
  pub head-read : {P : Type 0} (bs : Bits) {x : Headed H} {rest : Bits} → read_head d f h bs ≡ got x rest
      → ((vs : Fields d.fields) (os : Options d.options) → fields_normal d.fields vs ≡ vs → options_normal d.options os ≡ os → h vs (f os) ≡ x.head → P) → P
  unfolding read_head
  head-read bs {x} e p =
      split-then (pdu_type d.type bs) _ e (λ z m r q. fields-read d.fields _ m q (λ vs m₁ own q₁.
      split-then (field flag_width m₁) _ q₁ (λ o m₂ r₂ q₂.
      split-then (options_behind d.options f (eqb o 1) m₂) _ q₂ (λ t m₃ r₃ q₃.
      behind-read d.options s f (eqb o 1) m₂ r₃ (λ os own' made.
      let is : record { head = h vs t; obit = o } ≡ x = cc in
      p vs os own own' (ap (h vs) made ∙ ap (λ (x : Headed H). x.head) is))))))

-- ## what is the same

pub held-same : {A : Type 0} {eq : A → A → Type 0} (f : A → A) → ((a b : A) → eq a b → f a ≡ f b) → (o u : Option A) → SameHeld eq o u → option_map f o ≡ option_map f u
held-same f h None None e = refl
held-same f h None (Some b) e = absurd e
held-same f h (Some a) None e = absurd e
held-same f h (Some a) (Some b) e = ap Some (h a b e)

equal-held : {A : Type 0} (o u : Option A) → SameHeld ◌≡◌ o u → o ≡ u
equal-held None None e = refl
equal-held None (Some b) e = absurd e
equal-held (Some a) None e = absurd e
equal-held (Some a) (Some b) e = ap Some e

pub held-normal-same : {A : Type 0} (eq : A → A → Type 0) (f : A → A) (o : Option A) → ((a : A) → o ≡ Some a → eq a (f a)) → SameHeld eq o (option_map f o)
held-normal-same eq f None h = tt
held-normal-same eq f (Some a) h = h a refl

held-self : {A : Type 0} (o : Option A) → SameHeld ◌≡◌ o o
held-self None = tt
held-self (Some a) = refl

pub fields-same : (fs : List Field) (vs us : Fields fs) → SameFields fs vs us → fields_normal fs vs ≡ fields_normal fs us
unfolding fields_normal
fields-same [] vs us e = refl
fields-same (number w ∷ fs) vs us e = λ i. (e.0 i, fields-same fs vs.1 us.1 e.1 i)
fields-same (switched w ∷ fs) vs us e =
    λ i. ((e.0.0 i, u64_of (equal-held (in_u64 vs.0.1) (in_u64 us.0.1) e.0.1 i)), fields-same fs vs.1 us.1 e.1 i)

pub fields_normal-same : (fs : List Field) (vs : Fields fs) → SameFields fs vs (fields_normal fs vs)
unfolding fields_normal
fields_normal-same [] vs = tt
fields_normal-same (number w ∷ fs) vs = (refl, fields_normal-same fs vs.1)
fields_normal-same (switched w ∷ fs) vs = ((refl, rw (held-option 0 (in_u64 vs.0.1)) (held-self (in_u64 vs.0.1))), fields_normal-same fs vs.1)

pub options-same : (cs : List Type2) → AllSound cs → (os us : Options cs) → SameOptions cs os us → options_normal cs os ≡ options_normal cs us
unfolding options_normal
options-same [] s os us e = refl
options-same (c ∷ cs) s os us e =
    λ i. (c.stored (held-same c.normal s.0.same (c.held os.0) (c.held us.0) e.0 i), options-same cs s.1 os.1 us.1 e.1 i)

pub options_normal-same : (cs : List Type2) → AllSound cs → (os : Options cs) → SameOptions cs os (options_normal cs os)
unfolding options_normal
options_normal-same [] s os = tt
options_normal-same (c ∷ cs) s os =
    (rw (s.0.held (option_map c.normal (c.held os.0))) (held-normal-same c.Same c.normal (c.held os.0) (λ v e. s.0.normal-same v)), options_normal-same cs s.1 os.1)
