-- A line that leaves the table is refused, changes nothing, or sets a default; and equal definitions are met alike.
use mathlib.Core.Path.{◌≡◌, refl}
use mathlib.Core.List.{List}
use mathlib.Core.Bool.{Bool, cond}
use native.Mathlib.Omega.{arith}
use Prim.Native.Nat.{ℕ, ◌<◌}
use Rattle.tree.specs.Forest.{TreePath, Forest}
use Rattle.tree.specs.declared.Profile.{Profile}
use Rattle.listing.specs.Words.{Words}
use Rattle.listing.specs.Entries.{Said, Said.none, Said.is_dir, Said.is_file, Said.is_other, Said.twice}
use Rattle.listing.specs.Accepted.{GoodState, Inside}
use Rattle.listing.specs.Reading.{State, State.before, State.inside, State.closed, Step, Step.goes, Step.stops, close, close_line, is_empty, set_to, with_default}
use Rattle.listing_reader.specs.declared.Reader.{Reader}
use Rattle.std.specs.Prelude.{Option, Some, None, Result, Ok, Err}
use Rattle.listing_keywords.specs.declared.Kind.{Kind}
use Rattle.listing_keywords.specs.declared.Kind.TheVariants.{Dir, File}
use Rattle.tree.proofs.Never.{never}
use Rattle.listing_keywords.specs.Entries.{said_of, type_due}
use Rattle.listing_reader.specs.State.{Open, Reads}
use Rattle.listing_reader.specs.Does.{Did, Sets}
use Rattle.listing_lines.specs.Takes.{Alters}

pub alters-as : {f g : State → Step} {s : Reader} {r : Result Reader ℕ} → ((t : State) → f t ≡ g t) → Alters g s r → Alters f s r
alters-as e a = record { does = λ p most w t g h. rw (e t) (a.does p most w t g h) }

pub refuses : (n : ℕ) (s : Reader) → 0 < n → Alters (λ t. stops n) s (Err n)
refuses n s h = record { does = λ p most w t g q. (refl, h) }

pub stays : (s : Reader) → Alters (λ t. goes t) s (Ok s)
stays s = record { does = λ p most w t g q. q }

pub resets : (v : Option Kind) {s r : Reader} → Sets s v r → Alters (λ t. goes (with_default (said_of v) t)) s (Ok r)
resets v a = record { does = λ p most w t g q. a.does p w t q }

-- a /set line by its type, as it is handed back
pub set-bad : (t : Said) (n : ℕ) (s : Reader) → Err n ≡ type_due t → Alters (set_to t) s (Err n)
set-bad none n s e = never (cc)
set-bad is_dir n s e = never (cc)
set-bad is_file n s e = never (cc)
set-bad is_other n s e = let q : n ≡ 10 = cc in rw q (refuses 10 s (omega arith))
set-bad twice n s e = let q : n ≡ 9 = cc in rw q (refuses 9 s (omega arith))

pub set-untold : (t : Said) (s : Reader) → Ok None ≡ type_due t → Alters (set_to t) s (Ok s)
set-untold none s e = stays s
set-untold is_dir s e = never (cc)
set-untold is_file s e = never (cc)
set-untold is_other s e = never (cc)
set-untold twice s e = never (cc)

pub set-told : (t : Said) (k : Kind) (s r : Reader) → Ok (Some k) ≡ type_due t → Sets s (Some k) r → Alters (set_to t) s (Ok r)
set-told none k s r e a = never (cc)
set-told is_dir k s r e a = let q : k ≡ Dir = cc in resets (Some Dir) (rw q at a)
set-told is_file k s r e a = let q : k ≡ File = cc in resets (Some File) (rw q at a)
set-told is_other k s r e a = never (cc)
set-told twice k s r e a = never (cc)

-- whether a folder is open tells the state
pub shut-inside : {p : Profile} {w : List ℕ} {s : Reader} {f : Forest} {q : TreePath} {d : Said} {A : Type 0} → s.depth ≡ 0 → Open p w s f q d → A
shut-inside e h = let deep = h.deep in absurd (omega arith)

pub close-shut : (ws : Words) (s : Reader) → s.depth ≡ 0 → Alters (close_line ws) s (Err 11)
unfolding close_line
close-shut ws s e = record { does = λ p most w t g h. go p w t h }
  where
    go : (p : Profile) (w : List ℕ) (t : State) → Reads p w s t → Did p (close_line ws t) w (Err 11)
    go p w (before d) h = (refl, omega arith)
    go p w (inside f q d) h = shut-inside e h
    go p w (closed f) h = (refl, omega arith)

pub close-folder : (ws : Words) (s : Reader) (b : Bool) (r : Result Reader ℕ) → (s.depth ≡ 0 → ⊥) → b ≡ is_empty ws
    → ((p : Profile) (most : ℕ) (w : List ℕ) (f : Forest) (q : TreePath) (d : Said) → Inside p most f q → Open p w s f q d → Did p (cond b (goes (close f q d)) (stops 9)) w r)
    → Alters (close_line ws) s r
unfolding close_line
close-folder ws s b r e i k = record { does = λ p most w t g h. go p most w t g h }
  where
    go : (p : Profile) (most : ℕ) (w : List ℕ) (t : State) → GoodState p most t → Reads p w s t → Did p (close_line ws t) w r
    go p most w (before d) g h = absurd (e h.shut)
    go p most w (inside f q d) g h = rw (← i) (k p most w f q d g h)
    go p most w (closed f) g h = absurd (e h.shut)
