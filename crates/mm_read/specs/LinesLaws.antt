-- Steps of the functions that keep a line.
use Rattle.std.specs.Prelude.{◌≡◌, ℕ, ◌+◌, ◌-◌, ◌<◌, ◌≤◌, Bool, true, false, cond, List, [], ◌∷◌, length, take, drop, ◌==◌, ◌≢◌, slice_index, slice_set, refl}
use Rattle.std.proofs.Common.{◌∙◌, arith, lt-ltb, le-ltb, eq-eqb, ne_eqb, length-take, add-one, take-suc-set, drop_of_length-le}
use Rattle.mm_read.specs.Lines.{kept, held_by, held, without_return}
use Rattle.mm_read.specs.WordsLaws.{from}

-- a character behind what is held, as the array holds it
pub kept_more : (line : List ℕ) (count x : ℕ) → count < length line → kept (length line) (take count line) x ≡ take (count + 1) (slice_set line count x)
kept_more line count x h =
    let e : length (take count line) < length line = rw length-take (omega arith) in
    rw (lt-ltb _ _ e, add-one, take-suc-set line count x h)

pub kept_full : (line : List ℕ) (count x : ℕ) → length line ≤ count → kept (length line) (take count line) x ≡ take count line
kept_full line count x h =
    let e : length line ≤ length (take count line) = rw length-take (omega arith) in
    rw (le-ltb _ _ e)

-- PIECES
pub held_more : (room : ℕ) (xs piece : List ℕ) (i : ℕ) → i < length piece → held room xs (drop i piece) ≡ held room (held_by room xs (slice_index piece i)) (drop (i + 1) piece)
unfolding held
held_more room xs piece i h = rw (from piece i h)

pub held-ends : (room : ℕ) (xs piece : List ℕ) (i : ℕ) → length piece ≤ i → held room xs (drop i piece) ≡ xs
unfolding held
held-ends room xs piece i h = rw (drop_of_length-le piece h)

pub held_newline : (room : ℕ) (xs : List ℕ) (x : ℕ) → x ≡ 10 → held_by room xs x ≡ []
held_newline room xs x e = rw (eq-eqb _ _ e)

pub held-other : (room : ℕ) (xs : List ℕ) (x : ℕ) → (x ≢ 10) → held_by room xs x ≡ kept room xs x
held-other room xs x e = rw (ne_eqb _ _ e)

pub held-step : (room n : ℕ) (xs t piece : List ℕ) (i : ℕ) → i < length piece → n ≡ room → t ≡ held_by n xs (slice_index piece i)
    → held room xs (drop i piece) ≡ held room t (drop (i + 1) piece)
held-step room n xs t piece i h e q = held_more room xs piece i h ∙ rw (q, e)

-- A LINE'S END
pub returned : (s : List ℕ) → slice_index s (length s - 1) ≡ 13 → without_return s ≡ take (length s - 1) s
returned s e = rw (eq-eqb _ _ e)

pub unreturned : (s : List ℕ) → (slice_index s (length s - 1) ≢ 13) → without_return s ≡ s
unreturned s e = rw (ne_eqb _ _ e)

pub empty-unreturned : (s : List ℕ) → length s ≤ 0 → without_return s ≡ s
empty-unreturned [] h = refl
empty-unreturned (x ∷ xs) h = absurd (omega arith)

cond_within : (b : Bool) (xs ys : List ℕ) → length xs ≤ length ys → length (cond b xs ys) ≤ length ys
cond_within true xs ys h = h
cond_within false xs ys h = omega arith

pub without_return_within : (s : List ℕ) → length (without_return s) ≤ length s
without_return_within s = cond_within (slice_index s (length s - 1) == 13) (take (length s - 1) s) s (rw length-take (omega arith))
