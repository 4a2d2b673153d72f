-- DEMAND 3 of the order, for the bits of any message of any format: the two readings against the walk and the cut.
use Rattle.std.specs.Prelude.{ℕ, ◌+◌, ◌-◌, ◌<◌, ◌≡◌, ◌↔◌, Bool, length}
use Rattle.std.proofs.Common.{arith, sym, ap, ◌∙◌, subst, length-append}
use Rattle.std.proofs.Math.Path.{refl}
use Rattle.std.proofs.Math.Bool.{true, false}
use Rattle.std.specs.Prelude.{None}
use mathlib.Core.List.{List, [], ◌∷◌, ◌++◌, map}
use Rattle.bits.specs.Bits.{Bits}
use Rattle.bits.specs.Reader.{Answer, got, refused, Reader, then, Local, Tail}
use Rattle.bits.specs.ReaderLaws.{refused-got, split-then, local_tail, got-local, bind_local, bind_tail, Agree, both, neither, agree, Follows, Passes}
use Rattle.elements.proofs.NumbersLaws.{never}
use Rattle.elements.specs.Table.{Counted, counted, Piece, walk, cut, unlisted, total, used_of, is_listed, scan_table}
use Rattle.elements.proofs.TableLaws.{used_of_lem, scan-strict, scan_tail, scan-local}
use Rattle.elements.proofs.Cut.{Alike, give, refuse, cut-length, cut_none, Walks, scan-cut, scan-walks}
use Rattle.messages.proofs.FormatLaws.{message-made}
use Rattle.messages.specs.Format.{Format, Walked, leaves, stays, body, message, walked, walk_behind, walk_message}
use Rattle.bits.specs.declared.pdu_parse_error.PduParseErr.{PduParseErr}

-- what is asked of a message's head
pub record RegularHead {S A R : Type 0} (f : Format S A R) : Type 0 where
  pub head-local : Local f.head
  pub layout-local : Local f.layout
  -- the layout passes the bits that the head reads
  pub head_follows : Follows f.head f.layout f.more

-- and of its parts
pub record Regular {S A R : Type 0} (content : S → ℕ → Reader A) (f : Format S A R) : Type 0 where
  pub contents_local : (s : S) (n : ℕ) → Local (content s n)
  -- a content that is read has its declared length
  pub contents_pass : (s : S) (n : ℕ) → Passes n (content s n)
  pub heads : RegularHead f

-- no record is given
abbrev pub Refuses : {A : Type 0} → Answer A → Type 0
Refuses x = (n : PduParseErr) × (x ≡ refused n)

refuses-by : {A : Type 0} (x : Answer A) → ((a : A) (rest : Bits) → x ≡ got a rest → ⊥) → Refuses x
refuses-by (got a rest) k = absurd (k a rest refl)
refuses-by (refused n) k = (n, refl)

module _ {S A R : Type 0} (identifier : S → ℕ) (content : S → ℕ → Reader A) (f : Format S A R) where
  abbrev pub skipping : Reader (Counted R)
  skipping = message identifier content f true

  abbrev pub strict : Reader (Counted R)
  strict = message identifier content f false

  abbrev pub listed : ℕ → Bool
  listed = is_listed identifier f.table

  -- where the walk over bs stays inside the window: us are the elements to cut, c is the cut message
  pub record Inside (bs : Bits) (us : List Piece) (c : Bits) : Type 0 where
    -- the skipping reading gives a record exactly when the strict reading gives that same record for the cut message; its count skipped is the number of elements cut
    pub same : (x : Counted R) (rest : Bits) → (skipping bs ≡ got x rest) ↔ ((x.skipped ≡ length us) × (strict c ≡ got (counted 0 x.value) rest))
    -- its bits consumed are the strict reading's for the cut message plus the bits cut
    pub consumed : (x : Counted R) (rest : Bits) → strict c ≡ got x rest → length bs - length rest ≡ (length c - length rest) + total us
    -- if one or more stand there, the strict reading gives no record for the uncut message
    pub refuses : 0 < length us → Refuses (strict bs)
    -- the bits are those of the cut message and those cut
    pub together : length bs ≡ length c + total us
    -- if none stands there, nothing is cut
    pub uncut : us ≡ [] → c ≡ bs

  pub record Demand3 (bs : Bits) : Type 0 where
    pub inside : (us : List Piece) (c : Bits) → walk_message listed f.layout bs ≡ stays us c → Inside bs us c
    -- where the walk leaves the window, neither reading gives a record
    pub outside : walk_message listed f.layout bs ≡ leaves → Refuses (skipping bs) × Refuses (strict bs)
    -- the strict reading's count is 0
    pub counts : (x : Counted R) (rest : Bits) → strict bs ≡ got x rest → x.skipped ≡ 0

  module _ (ok : Regular content f) where
    -- ## what the readings leave

    body-local : (h : f.Head) (o : Bool) → Local (body identifier content f false h o)
    body-local h true = bind_local (scan_table identifier content false f.table) _ (scan-local identifier content ok.contents_local listed f.table) (λ x. got-local _)
    body-local h false = got-local _

    pub strict-local : Local strict
    unfolding message
    strict-local = bind_local f.head _ ok.heads.head-local (λ h. body-local h (f.more h))

    body_tail : (b : Bool) (h : f.Head) (o : Bool) → Tail (body identifier content f b h o)
    body_tail b h true = bind_tail (scan_table identifier content b f.table) _ (scan_tail identifier content ok.contents_local listed b f.table) (λ x. local_tail (got-local _))
    body_tail b h false = local_tail (got-local _)

    pub message_tail : (b : Bool) → Tail (message identifier content f b)
    unfolding message
    message_tail b = bind_tail f.head _ (local_tail ok.heads.head-local) (λ h. body_tail b h (f.more h))

    -- ## what a record rests on

    -- the head goes along with the layout
    head_at : (bs : Bits) {o : Bool} {mid : Bits} {h : f.Head} {r : Bits} → f.layout bs ≡ got o mid → f.head bs ≡ got h r → (f.more h ≡ o) × (r ≡ mid)
    head_at bs {h = h} {r = r} e p = let q = ok.heads.head_follows.at bs h r p in (cc, cc)

    -- the walk stays inside
    walks_at : (b : Bool) (bs : Bits) {mid : Bits} {x : Counted R} {r : Bits} → f.layout bs ≡ got true mid → message identifier content f b bs ≡ got x r
        → Walks listed mid x.skipped
    walks_at b bs {mid} e p =
        message-made identifier content f (λ x. Walks listed mid x.skipped) b bs
        (λ h m q o y r k. scan-walks identifier content ok.contents_local ok.contents_pass listed b f.table (λ i t. t) mid (rw (head_at bs e q).1 at k))
        (λ h m q o. never (sym o ∙ (head_at bs e q).0)) p

    strict-counts : (bs : Bits) {x : Counted R} {r : Bits} → strict bs ≡ got x r → x.skipped ≡ 0
    strict-counts bs e =
        message-made identifier content f (λ x. x.skipped ≡ 0) false bs (λ h m p o y r q. scan-strict identifier content listed f.table m q) (λ h m p o. refl) e

    -- ## the proof

    inside-by : (bs : Bits) (us : List Piece) (c : Bits) → Alike (length us) (skipping bs) (strict c) → length bs ≡ length c + total us
        → (0 < length us → Refuses (strict bs)) → (us ≡ [] → c ≡ bs) → Inside bs us c
    inside-by bs us c a l n u = record {
      same = go a;
      consumed = λ x rest e. let v = strict-local.at c x rest e in omega (arith, ap length v.split, length-append v.used rest);
      refuses = n;
      together = l;
      uncut = u;
    }
      where
        go : Alike (length us) (skipping bs) (strict c) → (x : Counted R) (rest : Bits)
            → (skipping bs ≡ got x rest) ↔ ((x.skipped ≡ length us) × (strict c ≡ got (counted 0 x.value) rest))
        go (give v r p q) x rest = (
          (λ e. let g : counted (length us) v ≡ x = cc in (rw (← g), rw (← g) (cc))),
          (λ (n, e).
              let g : counted 0 v ≡ counted 0 x.value = cc in
              let h : r ≡ rest = cc in
              p ∙ rw (← n, ap (λ (y : Counted R). y.value) g, h)),
        )
        go (refuse j k p q) x rest = ((λ e. refused-got (sym p ∙ e)), (λ (n, e). refused-got (sym q ∙ e)))

    no_layout : (bs : Bits) {n : PduParseErr} → f.layout bs ≡ refused n → (b : Bool) → Refuses (message identifier content f b bs)
    unfolding message
    no_layout bs e b = refuses-by (message identifier content f b bs) (λ x r p. split-then (f.head bs) _ p (λ h m q k. refused-got (sym e ∙ ok.heads.head_follows.at bs h m q)))

    no_walk : (bs : Bits) {mid : Bits} {n : PduParseErr} → f.layout bs ≡ got true mid → walk mid ≡ refused n → (b : Bool) → Refuses (message identifier content f b bs)
    no_walk bs e w b = refuses-by (message identifier content f b bs) (λ x r p. refused-got (sym w ∙ (walks_at b bs e p).walked))

    -- O-bit 0: the readings are the same
    alike-head : (bs : Bits) {mid : Bits} → f.layout bs ≡ got false mid → Alike 0 (skipping bs) (strict bs)
    unfolding message
    alike-head bs e = go (f.head bs) refl
      where
        go : (x : Answer f.Head) → f.head bs ≡ x
            → Alike 0 (then x (λ h. body identifier content f true h (f.more h))) (then x (λ h. body identifier content f false h (f.more h)))
        go (got h r) p = rw (head_at bs e p).0 (give (f.finish h (map (λ s. None) f.table)) r refl refl)
        go (refused n) p = refuse n n refl refl

    -- O-bit 1: the head u is read alike before the elements and before what the cut leaves of them
    alike-table : (u : Bits) → ((zs : Bits) → f.layout (u ++ zs) ≡ got true zs) → (ps : List Piece) (mid : Bits) {rest : Bits} → walk mid ≡ got ps rest
        → Alike (length (unlisted listed ps)) (skipping (u ++ mid)) (strict (u ++ cut listed ps rest))
    unfolding message
    alike-table u any ps mid {rest} w = go (agree ok.heads.head-local u (λ zs h r p. (head_at (u ++ zs) (any zs) p).1) mid c)
      where
        c : Bits
        c = cut listed ps rest

        finished : (h : f.Head) → Alike (length (unlisted listed ps)) (scan_table identifier content true f.table mid) (scan_table identifier content false f.table c)
            → Alike (length (unlisted listed ps)) (body identifier content f true h true mid) (body identifier content f false h true c)
        finished h (give vs r p q) = give (f.finish h vs) r (rw p) (rw q)
        finished h (refuse j k p q) = refuse j k (rw p) (rw q)

        go : Agree (f.head (u ++ mid)) (f.head (u ++ c)) mid c → Alike (length (unlisted listed ps)) (skipping (u ++ mid)) (strict (u ++ c))
        go (both h x y) = rw (x, y) (rw (head_at (u ++ mid) (any mid) x).0
            (finished h (scan-cut identifier content ok.contents_local ok.contents_pass listed f.table ps mid rest w)))
        go (neither j k x y) = refuse j k (rw x) (rw y)

    inside-table : (bs : Bits) {mid : Bits} → f.layout bs ≡ got true mid → (ps : List Piece) {rest : Bits} → walk mid ≡ got ps rest
        → Inside bs (unlisted listed ps) (used_of bs mid ++ cut listed ps rest)
    inside-table bs {mid} e ps {rest} w =
        let v = ok.heads.layout-local.at bs true mid e in
        let u : Bits = v.used in
        let c : Bits = cut listed ps rest in
        rw (used_of_lem u mid v.split) (inside-by bs (unlisted listed ps) (u ++ c)
        (subst (λ (b : Bits). Alike (length (unlisted listed ps)) (skipping b) (strict (u ++ c))) (sym v.split) (alike-table u v.any ps mid w))
        (omega (arith, ap length v.split, length-append u mid, length-append u c, cut-length listed ps mid w))
        (λ Some. refuses-by (strict bs) (λ x r p.
        let k = walks_at false bs e p in
        let same : k.met ≡ ps = cc k.walked in
        let None : length (unlisted listed k.met) ≡ 0 = k.count ∙ strict-counts bs p in
        omega (arith, rw same at None)))
        (λ None. rw (cut_none listed ps mid w None) (sym v.split)))

    abbrev Ends : Bits → Walked → Type 0
    Ends bs leaves = Refuses (skipping bs) × Refuses (strict bs)
    Ends bs (stays us c) = Inside bs us c

    walk_ends : (bs : Bits) → Ends bs (walk_message listed f.layout bs)
    unfolding walk_message total
    walk_ends bs = at (f.layout bs) refl
      where
        at : (x : Answer Bool) → f.layout bs ≡ x → Ends bs (walk_behind listed bs x)
        at (refused n) e = (no_layout bs e true, no_layout bs e false)
        at (got false mid) e = inside-by bs [] bs (alike-head bs e) (omega arith) (λ h. absurd (omega arith)) (λ h. refl)
        at (got true mid) e = on (walk mid) refl
          where
            on : (w : Answer (List Piece)) → walk mid ≡ w → Ends bs (walked listed (used_of bs mid) w)
            on (got ps rest) w = inside-table bs e ps w
            on (refused n) w = (no_walk bs e w true, no_walk bs e w false)

    -- DEMAND 3
    pub demand3 : (bs : Bits) → Demand3 bs
    demand3 bs = record { inside = λ us c e. rw e at (walk_ends bs); outside = λ e. rw e at (walk_ends bs); counts = λ x rest e. strict-counts bs e }

    -- what the strict reading gives, the skipping one gives too
    pub strict-skipping : (bs : Bits) (x : Counted R) (rest : Bits) → strict bs ≡ got x rest → skipping bs ≡ got x rest
    strict-skipping bs x rest e = at (walk_message listed f.layout bs) (walk_ends bs)
      where
        at : (w : Walked) → Ends bs w → skipping bs ≡ got x rest
        at leaves k = refused-got (sym k.1.1 ∙ e)
        at (stays us c) k = on us refl
          where
            on : (ws : List Piece) → us ≡ ws → skipping bs ≡ got x rest
            on [] h =
                let n : x.skipped ≡ 0 = strict-counts bs e in
                (k.same x rest).1 (rw h n, rw (k.uncut h) (e ∙ ap (λ (m : ℕ). got (counted m x.value) rest) n))
            on (w ∷ ws) h = refused-got (sym (k.refuses (omega (arith, ap length h))).1 ∙ e)
