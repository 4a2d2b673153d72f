-- A line as it comes in.
use Rattle.std.specs.Prelude.{ℕ, ◌-◌, cond, List, [], ◌∷◌, ◌++◌, length, take, ◌==◌, nat_lt, slice_index}

-- a character behind what is held, if there is room for so many
abbrev pub kept : ℕ → List ℕ → ℕ → List ℕ
kept room xs x = cond (nat_lt (length xs) room) (xs ++ x ∷ []) xs

-- what is held behind one character more: nothing behind a newline
abbrev pub held_by : ℕ → List ℕ → ℕ → List ℕ
held_by room xs x = cond (x == 10) [] (kept room xs x)

-- what is held behind a piece of the input
unfoldable pub held : ℕ → List ℕ → List ℕ → List ℕ
held room xs [] = xs
held room xs (x ∷ piece) = held room (held_by room xs x) piece

-- a line without the carriage return at its end
abbrev pub without_return : List ℕ → List ℕ
without_return xs = cond (slice_index xs (length xs - 1) == 13) (take (length xs - 1) xs) xs
