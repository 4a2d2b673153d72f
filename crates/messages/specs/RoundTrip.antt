-- The round trip: what a writing call took reads back the same, from exactly the bits written, and every other bit is kept.
use Rattle.std.specs.Prelude.{ℕ, ◌+◌, ◌≡◌, List, length, take, drop}
use Rattle.std.specs.Prelude.{Ok, Some}
use Rattle.bits.specs.Bits.{bits_of}
use Rattle.messages.specs.Calls.{message_of, reading, message_normal, SameMessage}
use Rattle.messages.specs.declared.Message.{Message}
use Rattle.messages.specs.declared.Record.{Record}
use Rattle.messages.specs.declared.Reading.{Reading}

-- the answer of a reading that gives v from n bits
abbrev pub reads_back : ℕ → ℕ → Record → Reading
reads_back first n v = record { verdict = Ok tt; place = first + n; consumed = n; skipped = 0; «record» = v }

-- THE ROUND TRIP of a writing call on the type number t, os, first and end that took r and wrote n bits, with the octets os' afterwards
pub record RoundTrip (t : ℕ) (os : List ℕ) (first end : ℕ) (r : Record) (n : ℕ) (os' : List ℕ) : Type 0 where
  -- the number is a message's
  pub message : Message
  pub known : message_of t ≡ Some message
  -- the strict reading of the same window gives a record from exactly the bits written; so does the window of exactly these bits
  pub strict : reading t 0 os' first end ≡ reads_back first n (message_normal message r)
  pub strict-exact : reading t 0 os' first (first + n) ≡ reads_back first n (message_normal message r)
  -- the skipping reading too, with 0 skipped
  pub skipping : reading t 1 os' first end ≡ reads_back first n (message_normal message r)
  pub skipping-exact : reading t 1 os' first (first + n) ≡ reads_back first n (message_normal message r)
  -- that record is the same as r: what is present is equal
  pub same : SameMessage message r (message_normal message r)
  -- every bit outside the message is kept
  pub before : take first (bits_of os') ≡ take first (bits_of os)
  pub behind : drop (first + n) (bits_of os') ≡ drop (first + n) (bits_of os)
  pub length-kept : length os' ≡ length os

-- the same of a record r that a reading gave: it is its own normal form, so that what reads back is r, field by field
pub record Rewritten (t : ℕ) (os : List ℕ) (first end : ℕ) (r : Record) (n : ℕ) (os' : List ℕ) : Type 0 where
  pub back : RoundTrip t os first end r n os'
  pub own : (m : Message) → message_of t ≡ Some m → message_normal m r ≡ r
