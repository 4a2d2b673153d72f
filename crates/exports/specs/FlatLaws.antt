-- Octets put one part after the other.
use Rattle.std.specs.Prelude.{ℕ, suc, ◌+◌, ◌*◌, ◌≤◌, ◌<◌, min, ◌≡◌, Bool, true, false, cond, set, take, drop, get_or}
use Rattle.std.proofs.Math.Nat.{mul-zero, mul-suc}
use Rattle.std.proofs.Common.{add_comm, append_assoc, arith, ap, ◌∙◌, length-take}
use Rattle.std.proofs.Math.Path.{refl, sym}
use mathlib.Core.List.{List, [], ◌∷◌, ◌++◌}
use Rattle.std.proofs.Math.ListN.{length, length-append}
use Rattle.std.proofs.lemmas.List.Edits.{sets, sets-eq, paste_all}
use Rattle.std.proofs.lemmas.Slice.{put_mid-paste}
use borrow.Rule.Slice.PartMut.{put_mid}
use Rattle.std.proofs.Math.Seq.{length-sets}
use Rattle.elements.specs.Lists.{each}
use Rattle.elements.proofs.EachLaws.{each_more, take-most}
use Rattle.std.specs.Prelude.{Result, Ok, Err}
use Rattle.std.specs.Result.{IsErrAnd}
use Rattle.std.proofs.lemmas.Result.{err_from_is_err_and}
use Rattle.bits.specs.PduParseError.{number_of, error_of, number-at_most_16, error-number}
use Rattle.bits.specs.declared.pdu_parse_error.PduParseErr.{PduParseErr}
use Rattle.exports.specs.Flat.{shown, numbered}

-- the octets xs are put into f from `at` on, which makes g; `to` is the place behind them
pub record Put (f : List ℕ) (at : ℕ) (xs : List ℕ) (g : List ℕ) (to : ℕ) : Type 0 where
  pub octets : g ≡ sets f at xs
  pub next : to ≡ at + length xs
  pub long : length g ≡ length f

pub put : {f : List ℕ} {at : ℕ} {xs g : List ℕ} {to : ℕ} → g ≡ sets f at xs → to ≡ at + length xs → Put f at xs g to
put {f} {at} {xs} e n = record { octets = e; next = n; long = ap length e ∙ length-sets f at xs }

sets_sets : (f : List ℕ) (at : ℕ) (xs ys : List ℕ) → sets (sets f at xs) (at + length xs) ys ≡ sets f at (xs ++ ys)
sets_sets f at [] ys = let z : at + 0 ≡ at = omega arith in rw z
sets_sets f at (x ∷ xs) ys = let z : at + suc (length xs) ≡ suc at + length xs = omega arith in rw z (sets_sets (set f at x) (suc at) xs ys)

infixr 5 ◌⨟◌
pub ◌⨟◌ : {f g h : List ℕ} {at to end : ℕ} {xs ys : List ℕ} → Put f at xs g to → Put g to ys h end → Put f at (xs ++ ys) h end
◌⨟◌ {f} {g} {h} {at} {to} {end} {xs} {ys} p q = put
    (q.octets ∙ ap (λ (k : ℕ). sets g k ys) p.next ∙ ap (λ (l : List ℕ). sets l (at + length xs) ys) p.octets ∙ sets_sets f at xs ys)
    (q.next ∙ (omega (arith, p.next, length-append xs ys)))

-- octets that are copied into f
pub copied : (f : List ℕ) (at n : ℕ) (ys : List ℕ) → n ≡ length ys → at + n ≤ length f → put_mid at n f ys ≡ sets f at ys
copied f at n ys e l =
    let room : at + length ys ≤ length f = rw (← e) l in
    put_mid-paste at n f ys ys n refl refl e ∙ paste_all f at ys n e ∙ rw e (sym (append_assoc (take at f) ys (drop (at + length ys) f)) ∙ sym (sets-eq ys f at room))

-- ## things one after the other

-- A LOOP THAT PUTS THINGS of w octets each, from `at` on: i of n are put
pub record Shown {G : Type 0} (flat : G → List ℕ) (w : ℕ) (gs : List G) (n : ℕ) (f : List ℕ) (at : ℕ) (g : List ℕ) (to i : ℕ) : Type 0 where
  pub few : i ≤ n
  pub place : to ≡ at + w * i
  pub things : Put f at (each flat (take i gs)) g to

module _ {G : Type 0} (flat : G → List ℕ) (w : ℕ) where
  pub shown_none : (gs : List G) (n : ℕ) (f : List ℕ) (at : ℕ) → Shown flat w gs n f at f at 0
  unfolding each
  shown_none gs n f at = let z : w * 0 ≡ 0 = mul-zero w in record { few = omega arith; place = omega arith; things = put refl (omega arith) }

  -- one more
  module _ (long : (g : G) → length (flat g) ≡ w) {gs : List G} {n : ℕ} {f g h : List ℕ} {at to end i : ℕ} (s : Shown flat w gs n f at g to i) (l : i < n) (m : n ≤ length gs)
      (d : G) (q : Put g to (flat (get_or gs i d)) h end) where
    pub shown-more : Shown flat w gs n f at h end (i + 1)
    shown-more =
        let z : w * suc i ≡ w * i + w = mul-suc w i in
        let e : i + 1 ≡ suc i = omega arith in
        record {
          few = omega arith;
          place = rw e (omega (arith, s.place, q.next, long (get_or gs i d)));
          things = rw (each_more flat gs i d (omega arith)) (s.things ⨟ q);
        }

-- a list: what stands before its groups, and the groups that are shown
pub shown-put : {G : Type 0} (flat : G → List ℕ) (b : Bool) (n : ℕ) (gs : List G) (i : ℕ) {f g h : List ℕ} {at to end : ℕ} {xs : List ℕ} → length gs ≡ 63 → i ≡ shown b n
    → Put f at xs g to → Put g to (each flat (take i gs)) h end → Put f at (xs ++ cond b (each flat (take n gs)) []) h end
unfolding each
shown-put flat true n gs i l e p q = p ⨟ (rw (e, take-most n 63 gs l) at q)
shown-put flat false n gs i l e p q = p ⨟ (rw e at q)

-- ## how long a list is

module _ {G : Type 0} (flat : G → List ℕ) (w : ℕ) (long : (g : G) → length (flat g) ≡ w) where
  length-each : (gs : List G) → length (each flat gs) ≡ w * length gs
  unfolding each
  length-each [] = sym (mul-zero w)
  length-each (g ∷ gs) = length-append (flat g) (each flat gs) ∙ rw (long g, length-each gs, mul-suc w (length gs)) (add_comm w (w * length gs))

  pub length-shown : (p : Bool) (n : ℕ) (gs : List G) → length gs ≡ 63 → length (cond p (each flat (take n gs)) []) ≡ w * shown p n
  length-shown true n gs e = length-each (take n gs) ∙ ap (λ (k : ℕ). w * k) (length-take n gs ∙ ap (λ (k : ℕ). min n k) e)
  length-shown false n gs e = sym (mul-zero w)

  -- and what stands behind it
  pub length-list : (p : Bool) (n : ℕ) (gs : List G) (ys : List ℕ) → length gs ≡ 63
      → length (cond p (each flat (take n gs)) [] ++ ys) ≡ w * shown p n + length ys
  length-list p n gs ys e = length-append (cond p (each flat (take n gs)) []) ys ∙ ap (λ (k : ℕ). k + length ys) (length-shown p n gs e)

-- ## a refusal's number

-- a refusal handed up by `?`
pub numbered-up : {n : ℕ} (e : PduParseErr) (y : Result ℕ PduParseErr) → IsErrAnd y (λ x. x ≡ e) → number_of e ≡ n → numbered y ≡ n
numbered-up e y h p = let w = err_from_is_err_and y h in rw (w.1, w.2) p

-- no refusal has the number 0
not-zero : (e : PduParseErr) → number_of e ≡ 0 → ⊥
not-zero e z = let f : number_of (error_of 0) ≡ 0 = ap number_of (rw z at (error-number e)) ∙ z in omega (arith, f)

-- NO TWO ANSWERS HAVE ONE NUMBER: 64 × the bits of one, 1 to 16 of a refusal
module _ (n : ℕ) (e : PduParseErr) where
  pub apart : 64 * n ≡ number_of e → ⊥
  apart h = let m = number-at_most_16 e in let z : number_of e ≡ 0 = omega arith in not-zero e z

pub numbered-one : (x y : Result ℕ PduParseErr) → numbered x ≡ numbered y → x ≡ y
numbered-one (Ok n) (Ok m) h = let e : n ≡ m = omega arith in ap Ok e
numbered-one (Ok n) (Err e) h = absurd (apart n e h)
numbered-one (Err e) (Ok n) h = absurd (apart n e (sym h))
numbered-one (Err e) (Err f) h = ap Err (sym (error-number e) ∙ ap error_of h ∙ error-number f)
