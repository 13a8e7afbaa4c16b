-- What a search for keywords among a line's words hands back.
use Rattle.std.specs.Prelude.{◌≡◌, List, [], ◌∷◌, cond, length, take, drop, ℕ, ◌-◌, ◌≤◌}
use Rattle.std.specs.Borrow.{Bor}
use Rattle.tree.specs.Same.{same_words}
use Rattle.listing.specs.Bytes.{text}
use Rattle.listing.specs.Words.{Words, values}
use Rattle.listing_keywords.specs.declared.Hit.{Hit}
use Rattle.listing_keywords.specs.declared.Hit.TheVariants.{Never, Once, More}
use Rattle.listing_keywords.specs.declared.Hits.{Hits}

-- the bytes from a to e
abbrev pub part : List ℕ → ℕ → ℕ → List ℕ
part l a e = take (e - a) (drop a l)

-- no value, one, or more
abbrev pub times : Words → ℕ
times [] = 0
times (v ∷ []) = 1
times (v ∷ w ∷ vs) = 2

-- the first value, empty where there is none
abbrev pub first : Words → List ℕ
first [] = []
first (v ∷ vs) = v

-- a to e is a place in the line
pub record Within (l : List ℕ) (a e : ℕ) : Type 0 where
  pub low : a ≤ e
  pub high : e ≤ length l

-- bytes that stand in the line
pub record Stands (l v : List ℕ) : Type 0 where
  pub start : ℕ
  pub end : ℕ
  pub within : Within l start end
  pub is : v ≡ part l start end

-- how often a keyword is said, and its first value, which stands in the line
abbrev pub Found : List ℕ → Words → Hit → Type 0
Found l vs Never = times vs ≡ 0
Found l vs (Once v) = (times vs ≡ 1) × (v.now ≡ first vs) × Stands l v.now
Found l vs (More v) = (times vs ≡ 2) × (v.now ≡ first vs) × Stands l v.now

-- the same of each of the three keywords, among words
pub record AllFound (l : List ℕ) (ws : Words) (r : Hits) : Type 0 where
  pub kind : Found l (values (text "type") ws) r.kind
  pub size : Found l (values (text "size") ws) r.size
  pub digest : Found l (values (text "sha256digest") ws) r.digest

-- after a value more
abbrev pub seen_after : Hit → Bor (List ℕ) → Hit
seen_after Never v = Once v
seen_after (Once u) v = More u
seen_after (More u) v = More u

-- after a word more, whose keyword is key and whose value is v, for the keyword name
abbrev pub hit_after : List ℕ → List ℕ → Hit → Bor (List ℕ) → Hit
hit_after name key h v = cond (same_words key name) (seen_after h v) h

-- the same for each of the three
abbrev pub noted_after : Hits → List ℕ → Bor (List ℕ) → Hits
noted_after h key v =
    record {
      kind = hit_after (text "type") key h.kind v;
      size = hit_after (text "size") key h.size v;
      digest = hit_after (text "sha256digest") key h.digest v;
    }
