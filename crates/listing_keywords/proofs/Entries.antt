-- What a line's type and its entry are, by how often each keyword is said and what its value says.
use mathlib.Core.Path.{◌≡◌, refl}
use mathlib.Core.List.{List, [], ◌∷◌}
use mathlib.Core.Bool.{true, false}
use lib.ListN.{get_or}
use Prim.Native.Nat.{ℕ}
use Rattle.listing.specs.Names.{packed}
use Rattle.listing.specs.Words.{Words, values}
use Rattle.listing.specs.Bytes.{text}
use Rattle.listing.specs.Entries.{Said, Said.none, Said.is_dir, Said.is_file, Said.is_other, Said.twice, Entry.faulty, entry_as, one_each}
use Rattle.listing_values.specs.Values.{IsSize, IsDigest}
use Rattle.listing_values.specs.declared.Size.{Size}
use Rattle.listing_keywords.specs.Found.{times, Found}
use Rattle.listing_keywords.specs.Entries.{said_of, held_of, type_due}
use Rattle.listing.specs.Values.{is_size, is_digest}
use Rattle.std.specs.Prelude.{Option, Some, None, Ok, Err, replicate}
use Rattle.tree.proofs.Never.{never}
use Rattle.listing_keywords.specs.declared.Hit.{Hit}
use Rattle.listing_keywords.specs.declared.Kind.{Kind}
use Rattle.listing_keywords.specs.declared.Kind.TheVariants.{Dir, File}
use Rattle.listing_keywords.specs.declared.Hit.TheVariants.{Never, Once, More}

-- one word has the keyword
abbrev pub IsOnce : Hit → Type 0
IsOnce Never = ⊥
IsOnce (Once v) = Unit {0}
IsOnce (More v) = ⊥

is-once : (l : List ℕ) (vs : Words) (h : Hit) → Found l vs h → times vs ≡ 1 → IsOnce h
is-once l vs Never f e = never (cc)
is-once l vs (Once v) f e = tt
is-once l vs (More v) f e = never (let z = f.0 in cc)

not-each : (ss ds : Words) → (times ss ≡ 1 → times ds ≡ 1 → ⊥) → one_each ss ds ≡ faulty 9
not-each [] ds h = refl
not-each (s ∷ []) [] h = refl
not-each (s ∷ []) (d ∷ []) h = absurd (h refl refl)
not-each (s ∷ []) (d ∷ e ∷ ds) h = refl
not-each (s ∷ r ∷ ss) ds h = refl

-- not one of each
pub found-bad : (l : List ℕ) (ss ds : Words) (p q : Hit) → Found l ss p → Found l ds q → (IsOnce p → IsOnce q → ⊥) → one_each ss ds ≡ faulty 9
found-bad l ss ds p q f g h = not-each ss ds (λ a b. h (is-once l ss p f a) (is-once l ds q g b))

-- one size and one digest, and whether they are good
module _ (s d : List ℕ) where
  pub size-bad : is_size s ≡ false → one_each (s ∷ []) (d ∷ []) ≡ faulty 9
  size-bad e = rw e

  pub digest-bad : is_size s ≡ true → is_digest d ≡ false → one_each (s ∷ []) (d ∷ []) ≡ faulty 9
  digest-bad e f = rw (e, f)

  pub both-good : (n : Size) (w : List ℕ) → IsSize s (Some n) → IsDigest d (Some w)
      → Ok (1 ∷ n.high ∷ n.low ∷ get_or w 0 0 ∷ get_or w 1 0 ∷ get_or w 2 0 ∷ get_or w 3 0 ∷ get_or w 4 0 ∷ get_or w 5 0 ∷ get_or w 6 0 ∷ get_or w 7 0 ∷ [])
      ≡ held_of (one_each (s ∷ []) (d ∷ []))
  unfolding packed
  both-good n w a b = rw (a.0, b.0, a.1, a.2, b.1)

-- a default is what is due for the type that it stands for
pub default-due : (k : Option Kind) → Ok k ≡ type_due (said_of k)
default-due None = refl
default-due (Some Dir) = refl
default-due (Some File) = refl

-- an entry by its type, as it is handed back
module _ (t : Said) (ws : Words) where
  pub entry-bad : (k : ℕ) → Err k ≡ type_due t → Err k ≡ held_of (entry_as t ws)
  entry-bad = go t
    where
      go : (u : Said) (k : ℕ) → Err k ≡ type_due u → Err k ≡ held_of (entry_as u ws)
      go none k e = never (cc)
      go is_dir k e = never (cc)
      go is_file k e = never (cc)
      go is_other k e = let q : k ≡ 10 = cc in rw q
      go twice k e = let q : k ≡ 9 = cc in rw q

  pub entry-folder : Ok (Some Dir) ≡ type_due t → Ok (replicate 11 0) ≡ held_of (entry_as t ws)
  entry-folder = go t
    where
      go : (u : Said) → Ok (Some Dir) ≡ type_due u → Ok (replicate 11 0) ≡ held_of (entry_as u ws)
      go none e = never (cc)
      go is_dir e = refl
      go is_file e = never (cc)
      go is_other e = never (cc)
      go twice e = never (cc)

  pub entry-file : Ok (Some File) ≡ type_due t → one_each (values (text "size") ws) (values (text "sha256digest") ws) ≡ entry_as t ws
  entry-file = go t
    where
      go : (u : Said) → Ok (Some File) ≡ type_due u → one_each (values (text "size") ws) (values (text "sha256digest") ws) ≡ entry_as u ws
      go none e = never (cc)
      go is_dir e = never (cc)
      go is_file e = refl
      go is_other e = never (cc)
      go twice e = never (cc)

  pub entry-untold : Ok None ≡ type_due t → Err 10 ≡ held_of (entry_as t ws)
  entry-untold = go t
    where
      go : (u : Said) → Ok None ≡ type_due u → Err 10 ≡ held_of (entry_as u ws)
      go none e = refl
      go is_dir e = never (cc)
      go is_file e = never (cc)
      go is_other e = never (cc)
      go twice e = never (cc)
