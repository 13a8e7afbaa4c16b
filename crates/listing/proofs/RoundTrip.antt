-- The round trip holds: by induction over the tree, its lines lead from the entries read so far to all of them.
use mathlib.Core.Bool.{true}
use mathlib.Core.List.{List, [], ◌++◌, ◌∷◌, append_assoc}
use mathlib.Core.Path.{◌∙◌, ◌≡◌, ap}
use native.Mathlib.Numerals.{add-one}
use native.Mathlib.Omega.{arith}
use lib.ListN.{length, length-append}
use lib.Seq.{get_or_at}
use Prim.Native.Nat.{ℕ, suc, zero, ◌+◌, ◌-◌, ◌≤◌}
use borrow.Author.Tests.{le-leb}
use Rattle.tree.specs.Name.{Name}
use Rattle.tree.specs.Forest.{Forest, Forest.dir, Forest.end, Forest.leaf, Sorted, size}
use Rattle.tree.specs.Rules.{ContentRule, NameRule, Within}
use Rattle.tree.specs.Key.{FormedIn, fold}
use Rattle.tree.specs.declared.Profile.{Profile}
use Rattle.listing.specs.Bytes.{text}
use Rattle.listing.specs.Lines.{lines_from}
use Rattle.listing.specs.Entries.{Said, Said.none}
use Rattle.listing.specs.Reading.{Outcome.accepted, State.before, State.inside, answer_of, ends_in_lf, most_rows, reading, run}
use Rattle.listing.specs.RoundTrip.{RoundTrip}
use Rattle.listing.specs.Writing.{dir_line, file_line, lines_of, name_text, text_of}
use Rattle.listing.proofs.Spot.{Fits, Leads.a-dir, Leads.a-leaf, Open, fits_more, join, join-assoc, join-end, names, names_more, plug, plug-more, size-join, size-plug, sorted-below, sorted_rest}
use Rattle.listing.proofs.Steps.{close-line, close-root, dir-line, file-line, hash-line, root_line-runs}

-- the number of the line after a folder's entries
abbrev after : ℕ → Forest → ℕ
after n end = n
after n (leaf m c s) = after (suc n) s
after n (dir m k s) = after (suc (after (suc n) k)) s

dir-split : (m : Name) (k s : Forest) (r : List ℕ)
    → lines_of (dir m k s) ++ r ≡ dir_line (name_text m) ++ (lines_of k ++ (text "..\n" ++ (lines_of s ++ r)))
unfolding lines_of
dir-split m k s r =
    append_assoc (dir_line (name_text m)) (lines_of k ++ (text "..\n" ++ lines_of s)) r
    ∙ ap (λ (l : List ℕ). dir_line (name_text m) ++ l) (append_assoc (lines_of k) (text "..\n" ++ lines_of s) r)

-- what is known where the entries s are about to be read, at most d deep, after those of f
record Ready (p : Profile) (most d : ℕ) (os : List Open) (f s : Forest) : Type 0 where
  fits : Fits p os
  sorted : Sorted (fold p (join f s))
  within : Within NameRule ContentRule d s
  deep : d + length os ≤ 16
  room : suc (size (plug os f) + size s) ≤ most

module _ {p : Profile} {most d : ℕ} {os : List Open} {f : Forest} where
  -- once g is read, s is next
  next : (g s : Forest) → Ready p most d os f (join g s) → Within NameRule ContentRule d s → Ready p most d os (join f g) s
  next g s h w =
      let room = h.room in
      record {
        fits = h.fits;
        sorted = rw (join-assoc f g s) h.sorted;
        within = w;
        deep = h.deep;
        room = omega (arith, size-plug os f g, size-join g s);
      }

  -- a folder's own entries are next once it is opened
  dir-kids : {m : Name} {k s : Forest} → Ready p most (suc d) os f (dir m k s) → Ready p most d (os ++ (record { earlier = f; name = m } ∷ [])) end k
  unfolding fold Sorted Within size
  dir-kids {m} {k} {s} h =
      let room = h.room in
      let deep = h.deep in
      let o : Open = record { earlier = f; name = m } in
      record {
        fits = fits_more p os o h.fits (sorted-below p m f a-dir h.sorted);
        sorted = (sorted_rest p f (dir m k s) h.sorted).1;
        within = h.within.1;
        deep = omega (arith, length-append os (o ∷ []));
        room = omega (arith, size-plug os f (dir m end end), ap size (plug-more os o end));
      }

-- the lines of s lead from the entries f to those of both
abbrev Reads : Profile → ℕ → Forest → Type 0
Reads p most s =
    (d n : ℕ) (r : List ℕ) (os : List Open) (f : Forest) (v : Said) → Ready p most d os f s
    → run p most (lines_from n 0 (lines_of s ++ r)) (inside (plug os f) (names os) v)
    ≡ run p most (lines_from (after n s) 0 r) (inside (plug os (join f s)) (names os) v)

-- a folder's own lines, between the one that opens it and the one that closes it
reads-kids : (p : Profile) (most : ℕ) (m : Name) (k s : Forest) → Reads p most k → (d n : ℕ) (r : List ℕ) (os : List Open) (f : Forest) (v : Said)
    → Ready p most (suc d) os f (dir m k s)
    → run p most (lines_from n 0 (lines_of k ++ r)) (inside (plug os (join f (dir m end end))) (names os ++ (m ∷ [])) v)
    ≡ run p most (lines_from (after n k) 0 r) (inside (plug os (join f (dir m k end))) (names os ++ (m ∷ [])) v)
reads-kids p most m k s reads d n r os f v h =
    let o : Open = record { earlier = f; name = m } in
    rw (plug-more os o end, plug-more os o k, names_more os o) at (reads d n r (os ++ (o ∷ [])) end v (dir-kids h))

reads : (p : Profile) (most : ℕ) (s : Forest) → Reads p most s
unfolding lines_of Within size
reads p most end d n r os f v h = rw (join-end f)
reads p most (leaf m c s) zero n r os f v h = absurd h.within
reads p most (leaf m c s) (suc d) n r os f v h =
    let deep = h.deep in
    let room = h.room in
    rw (append_assoc (file_line m c) (lines_of s) r, ← join-assoc f (leaf m c end) s)
    (file-line p most n (lines_of s ++ r) m h.within.0 os f v h.fits (sorted-below p m f a-leaf h.sorted) (omega arith) (omega arith) c h.within.1
    ∙ reads p most s (suc d) (suc n) r os (join f (leaf m c end)) v (next (leaf m c end) s h h.within.2))
reads p most (dir m k s) zero n r os f v h = absurd h.within
reads p most (dir m k s) (suc d) n r os f v h =
    let deep = h.deep in
    let room = h.room in
    let rest : List ℕ = text "..\n" ++ (lines_of s ++ r) in
    let n' : ℕ = after (suc n) k in
    rw (dir-split m k s r, ← join-assoc f (dir m k end) s)
    (dir-line p most n (lines_of k ++ rest) m h.within.0 os f v h.fits (sorted-below p m f a-dir h.sorted) (omega arith) (omega arith)
    ∙ reads-kids p most m k s (reads p most k) d (suc n) rest os f v h
    ∙ close-line p most n' (lines_of s ++ r) (plug os (join f (dir m k end))) (names os) m v
    ∙ reads p most s (suc d) (suc n') r os (join f (dir m k end)) v (next (dir m k end) s h h.within.2))

-- the whole text ends in LF
ends-in : (l : List ℕ) → ends_in_lf (l ++ (10 ∷ [])) ≡ true
ends-in l = rw (get_or_at l 10 [] 10 (length (l ++ (10 ∷ [])) - 1) (omega (arith, length-append l (10 ∷ []))))

text-ends : (f : Forest) → ends_in_lf (text_of f) ≡ true
unfolding text_of dir_line
text-ends f = rw (← append_assoc (lines_of f) (text "..") (10 ∷ [])) (ends-in (text "#mtree\n. type=dir\n" ++ (lines_of f ++ text "..")))

runs : (p : Profile) (most : ℕ) (f : Forest) → FormedIn p f → suc (size f) ≤ most → run p most (lines_from 1 0 (text_of f)) (before none) ≡ accepted f
unfolding text_of lines_from run Fits size
runs p most f w h =
    hash-line p most (dir_line (text ".") ++ (lines_of f ++ text "..\n")) (before none)
    ∙ root_line-runs p most 2 (lines_of f ++ text "..\n") (omega arith)
    ∙ reads p most f 16 3 (text "..\n") [] end none (record { fits = tt; sorted = w.sorted; within = w.within; deep = omega arith; room = omega arith })
    ∙ close-root p most (after 3 f) [] f none

pub round_trip : RoundTrip
unfolding reading
round_trip p f room w rows long fits =
    let most : suc (size f) ≤ most_rows room = omega arith in
    let e : reading p (text_of f) room ≡ accepted f = rw (le-leb (length (text_of f)) 65536 long, text-ends f, runs p (most_rows room) f w most) in
    record { tree = e; answer = ap answer_of e ∙ rw add-one }
