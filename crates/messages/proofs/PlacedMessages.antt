-- A message at a cursor: its head, one look whether an element follows, and behind it the listed elements where one does.
use Rattle.std.specs.Prelude.{ℕ, ◌≡◌, refl, Bool, true, false, List, ◌∷◌, map, None}
use Rattle.bits.specs.Bits.{Bits}
use Rattle.bits.specs.Reader.{then, ◌>>=◌, Tail}
use Rattle.bits.specs.ReaderLaws.{then-both}
use Rattle.bits.specs.Placed.{window, Placed, placed, halted}
use Rattle.bits.specs.PlacedLaws.{Gives, step, stop, done}
use Rattle.bits.specs.PlacedTimes.{alike}
use Rattle.bits.specs.declared.bitbuffer.Cursor.{Cursor}
use Rattle.elements.specs.Table.{Look, outside, ends, opens, look, closing, Counted, counted, is_listed}
use Rattle.elements.proofs.TableLaws.{scan-unseen, scan-empty}
use Rattle.elements.specs.Rows.{follows_at, element_follows}
use Rattle.elements.proofs.PlacedTable.{follows_tail}
use Rattle.elements.specs.Kinds.{Element, identifier_of, content}
use Rattle.elements.specs.declared.typed_pdu_fields.Row.{Row}
use Rattle.messages.specs.Format.{Format, body, message}
use Rattle.messages.specs.declared.Record.{Record}
use Rattle.bits.specs.declared.pdu_parse_error.PduParseErr.{PduParseErr}

module _ (f : Format Row Element Record) (skipping : Bool) where
  module _ {s : Row} {ss : List Row} (table : f.table ≡ s ∷ ss) where
    -- ONE LOOK BEFORE THE TABLE: whether an element follows tells of the body what the O-bit told
    look-first : (h : f.Head) (m : Bool) (bs : Bits) → body identifier_of content f skipping h m bs ≡ (element_follows m >>= body identifier_of content f skipping h) bs
    unfolding element_follows
    look-first h false bs = refl
    look-first h true bs = go (look bs) refl
      where
        go : (l : Look) → look bs ≡ l → body identifier_of content f skipping h true bs ≡ then (follows_at l bs) (body identifier_of content f skipping h)
        go outside l = rw table (rw (scan-unseen identifier_of content (is_listed identifier_of (s ∷ ss)) skipping s ss bs l))
        go ends l = rw (scan-empty identifier_of content (is_listed identifier_of f.table) skipping f.table bs l) (then-both (closing bs) _ _ _ _ (λ z rest. refl))
        go (opens i) l = refl

module _ (f : Format Row Element Record) (skipping : Bool) {os : List ℕ} {c : Cursor} where
  pub no_head : {n : PduParseErr} → Gives f.head os c (halted n) → Gives (message identifier_of content f skipping) os c (halted n)
  unfolding message
  no_head e = stop _ e

  module _ {s : Row} {ss : List Row} (table : f.table ≡ s ∷ ss) {h : f.Head} {k : Cursor} (e : Gives f.head os c (placed h k)) (tail : Tail f.head) where
    behind-head : {x : Placed (Counted Record)} → Gives (element_follows (f.more h) >>= body identifier_of content f skipping h) os k x
        → Gives (message identifier_of content f skipping) os c x
    unfolding message
    behind-head g = step (λ h. body identifier_of content f skipping h (f.more h)) e tail (alike _ (look-first f skipping table h (f.more h) (window os k)) g)

    pub no_look : {n : PduParseErr} → Gives (element_follows (f.more h)) os k (halted n) → Gives (message identifier_of content f skipping) os c (halted n)
    no_look g = behind-head (stop _ g)

    module _ {m : Bool} {j : Cursor} (g : Gives (element_follows (f.more h)) os k (placed m j)) where
      behind-look : {x : Placed (Counted Record)} → Gives (body identifier_of content f skipping h m) os j x → Gives (message identifier_of content f skipping) os c x
      behind-look b = behind-head (step _ g (follows_tail (f.more h)) b)

      pub elements_follow : m ≡ true → {x : Placed (Counted Record)} → Gives (body identifier_of content f skipping h true) os j x → Gives (message identifier_of content f skipping) os c x
      elements_follow t b = behind-look (rw t b)

      pub none_follow : m ≡ false → Gives (message identifier_of content f skipping) os c (placed (counted 0 (f.finish h (map (λ s. None) f.table))) j)
      none_follow t = behind-look (rw t done)
