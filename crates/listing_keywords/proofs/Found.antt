-- A search for keywords: a word's keyword and value, one more word, and what a count tells of the values.
use mathlib.Core.Path.{◌≡◌, refl, sym, ◌∙◌}
use mathlib.Core.List.{List, [], ◌∷◌, ◌++◌, append-nil, append_assoc}
use mathlib.Core.Bool.{Bool, true, false, cond}
use mathlib.Core.Logic.{◌⊎◌, inl, inr, ⊎_elim}
use native.Mathlib.Omega.{arith}
use native.Mathlib.Numerals.{add-one}
use lib.ListN.{length, take, drop, length-take, length-drop, drop_of_length-le}
use lib.Seq.{drop-drop}
use Prim.Native.Nat.{ℕ, suc, ◌+◌, ◌-◌, ◌≤◌, ◌<◌}
use Rattle.tree.specs.Same.{same_words}
use Rattle.tree.proofs.Never.{never}
use Rattle.table_row.proofs.Table.{drop-take}
use Rattle.listing.specs.Bytes.{text}
use Rattle.listing.specs.Words.{Words, words, key_len, values}
use Rattle.listing_scan.specs.Places.{Counted}
use Rattle.listing_words.specs.First.{First}
use Rattle.listing_words.proofs.First.{first-next}
use Rattle.listing_keywords.specs.Found.{part, times, first, Stands, Found, AllFound, seen_after, hit_after, noted_after}
use Rattle.listing_keywords.specs.declared.Hit.{Hit}
use Rattle.listing_keywords.specs.declared.Hit.TheVariants.{Never, Once, More}
use Rattle.std.specs.Borrow.{Bor}
use Rattle.listing_keywords.specs.declared.Hits.{Hits}

part-tail : (l : List ℕ) (a e u : ℕ) → a + u ≤ e → drop u (part l a e) ≡ part l (a + u) e
part-tail l a e u h = let q : e - a ≡ u + (e - (a + u)) = omega arith in rw (q, drop-take u (e - (a + u)) (drop a l), drop-drop)

-- where a word's value begins, whose keyword is k bytes long: past the `=`, or at the word's end where there is none
abbrev pub Begins : ℕ → ℕ → ℕ → Type 0
Begins k n v = ((k < n) × (v ≡ k + 1)) ⊎ ((n ≤ k) × (v ≡ k))

-- a word's value is what comes after its keyword
value-is : (w : List ℕ) (k v : ℕ) → k ≡ key_len w → Begins k (length w) v → drop v w ≡ drop (suc (key_len w)) w
value-is w k v e (inl (h, s)) = rw (s, e, add-one)
value-is w k v e (inr (h, s)) = drop_of_length-le w {i = v} (omega arith) ∙ sym (drop_of_length-le w {i = suc (key_len w)} (omega arith))

-- the end of a word from place v on stands in its line
tail-stands : (l : List ℕ) (a e v : ℕ) → a ≤ e → e ≤ length l → v ≤ length (part l a e) → Stands l (drop v (part l a e))
tail-stands l a e v h g b =
    let q = simp (length-take, length-drop) at b in
    record {
      start = a + v;
      end = e;
      within = record { low = omega arith; high = g };
      is = part-tail l a e v (omega arith);
    }

-- what words say for a keyword, and then words more
values-append : (name : List ℕ) (us ws : Words) → values name (us ++ ws) ≡ values name us ++ values name ws
unfolding values
values-append name [] ws = refl
values-append name (u ∷ us) ws = go (same_words (take (key_len u) u) name) (values-append name us ws)
  where
    go : (t : Bool) → values name (us ++ ws) ≡ values name us ++ values name ws
        → cond t (drop (suc (key_len u)) u ∷ values name (us ++ ws)) (values name (us ++ ws))
        ≡ cond t (drop (suc (key_len u)) u ∷ values name us) (values name us) ++ values name ws
    go true e = rw e
    go false e = e

-- a value more
module _ (l : List ℕ) (v : Bor (List ℕ)) (b : Stands l v.now) where
  seen-found : (vs : Words) (h : Hit) → Found l vs h → Found l (vs ++ (v.now ∷ [])) (seen_after h v)
  seen-found [] Never f = (refl, refl, b)
  seen-found [] (Once u) f = never (let e = f.0 in cc)
  seen-found [] (More u) f = never (let e = f.0 in cc)
  seen-found (x ∷ []) Never f = never (cc)
  seen-found (x ∷ []) (Once u) f = (refl, f.1, f.2)
  seen-found (x ∷ []) (More u) f = never (let e = f.0 in cc)
  seen-found (x ∷ y ∷ vs) Never f = never (cc)
  seen-found (x ∷ y ∷ vs) (Once u) f = never (let e = f.0 in cc)
  seen-found (x ∷ y ∷ vs) (More u) f = (refl, f.1, f.2)

  -- a word more, whose value that is, and what is found for a keyword
  hit-found : (w : List ℕ) (us : Words) → drop (suc (key_len w)) w ≡ v.now
      → (name : List ℕ) (h : Hit) → Found l (values name us) h → Found l (values name (us ++ (w ∷ []))) (hit_after name (take (key_len w) w) h v)
  unfolding values
  hit-found w us r name h f = rw values-append (go (same_words (take (key_len w) w) name))
    where
      go : (t : Bool) → Found l (values name us ++ cond t (drop (suc (key_len w)) w ∷ []) []) (cond t (seen_after h v) h)
      go true = rw r (seen-found (values name us) h f)
      go false = rw append-nil f

-- what is left of the line, and what was found in the words before it
pub record Passed (l left : List ℕ) (h : Hits) : Type 0 where
  pub at : ℕ
  pub is : left ≡ drop at l
  pub fits : at ≤ length l
  pub seen : Words
  pub split : words l ≡ seen ++ words left
  pub found : AllFound l seen h

module _ {l : List ℕ} where
  pub passed_none : Passed l l (record { kind = Never; size = Never; digest = Never })
  unfolding values
  passed_none =
      record {
        at = 0;
        is = refl;
        fits = omega arith;
        seen = [];
        split = refl;
        found = record { kind = refl; size = refl; digest = refl };
      }

  module _ {left : List ℕ} {h : Hits} (p : Passed l left h) where
    pub passed-all : words left ≡ [] → AllFound l (words l) h
    passed-all e = rw (p.split, e, append-nil) p.found

    -- a word of what is left stands in the line
    word-part : {w r : List ℕ} (f : First left w r) → w ≡ part l (p.at + f.start) (p.at + f.end)
    word-part f =
        let q : (p.at + f.end) - (p.at + f.start) ≡ f.end - f.start = omega arith in
        f.is ∙ rw (p.is, drop-drop, q)

    pub passed-word : {w r : List ℕ} {k v : ℕ} (b : Bor (List ℕ)) → First left w r
        → Counted w (key_len w) k → Begins k (length w) v → b.now ≡ drop v w
        → Passed l r (noted_after h (take k w) b)
    passed-word {w} {r} {k} {v} b f c s is =
        let n = first-next left w r f in
        let a = p.at + f.start in
        let e = p.at + f.end in
        let low = n.some in
        let at = p.fits in
        let left-long : length left ≡ length l - p.at = rw p.is (length-drop p.at l) in
        let fits : e ≤ length l = let y = n.fits in omega arith in
        let q = word-part f in
        let u : v ≤ length w = ⊎_elim (λ q. let x = q.0 in let y = q.1 in omega arith) (λ q. let y = q.1 in let x = c.fits in omega arith) s in
        let stands : Stands l b.now = rw (is, q) (tail-stands l a e v (omega arith) fits (rw (← q) u)) in
        let value : drop (suc (key_len w)) w ≡ b.now = sym (value-is w k v c.is s) ∙ sym is in
        let more = hit-found l b stands w p.seen value in
        rw c.is
        (record {
          at = e;
          is = f.past ∙ rw (p.is, drop-drop);
          fits = fits;
          seen = p.seen ++ (w ∷ []);
          split = p.split ∙ rw (n.parted, append_assoc);
          found =
              record {
                kind = more (text "type") _ p.found.kind;
                size = more (text "size") _ p.found.size;
                digest = more (text "sha256digest") _ p.found.digest;
              };
        })

-- what one value tells
once-said : (vs : Words) → times vs ≡ 1 → vs ≡ first vs ∷ []
once-said [] e = never (cc)
once-said (v ∷ []) e = refl
once-said (v ∷ w ∷ vs) e = never (cc)

pub found-one : (l : List ℕ) (vs : Words) (v : Bor (List ℕ)) → Found l vs (Once v) → vs ≡ v.now ∷ []
found-one l vs v f = rw f.1 (once-said vs f.0)
