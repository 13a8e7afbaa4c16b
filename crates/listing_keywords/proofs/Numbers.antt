-- What the number and the words that are handed back tell of an entry, and of the root.
use mathlib.Core.Path.{◌≡◌, refl}
use mathlib.Core.List.{[], ◌∷◌}
use mathlib.Core.Bool.{Bool, true, false, cond, ◌&&◌}
use native.Mathlib.Omega.{arith}
use Prim.Native.Nat.{ℕ}
use Prim.Native.Nat.{◌≤◌, ◌<◌}
use Rattle.tree.proofs.Never.{never}
use Rattle.tree.specs.Forest.{Forest.end, Node, Node.absent, Node.file, Node.folder}
use Rattle.listing.specs.Bytes.{text}
use Rattle.listing.specs.Words.{Words, values}
use Rattle.listing.specs.Values.{is_size, is_digest}
use Rattle.listing.specs.Entries.{Said, Said.none, Said.is_dir, Said.is_file, Said.is_other, Said.twice, Entry, Entry.faulty, Entry.holds, type_in, one_each, entry_as, entry_of, root_as}
use Rattle.listing.proofs.Kept.{GoodEntry, entry-good}
use Rattle.listing_keywords.specs.Entries.{held_of, root_due}
use Rattle.std.specs.Prelude.{Ok, Err}

-- a fault is 9 or 10
abbrev pub IsFault : Entry → Type 0
IsFault (faulty k) = (9 ≤ k) × (k ≤ 10)
IsFault (holds x) = Unit {0}

nine : IsFault (faulty 9)
nine = (omega arith, omega arith)

ten : IsFault (faulty 10)
ten = (omega arith, omega arith)

fault-cond : (t : Bool) (x : Node) → IsFault (cond t (holds x) (faulty 9))
fault-cond true x = tt
fault-cond false x = nine

each-fault : (ss ds : Words) → IsFault (one_each ss ds)
each-fault [] ds = nine
each-fault (s ∷ []) [] = nine
each-fault (s ∷ []) (d ∷ []) = fault-cond (is_size s && is_digest d) _
each-fault (s ∷ []) (d ∷ e ∷ ds) = nine
each-fault (s ∷ r ∷ ss) ds = nine

as-fault : (t : Said) (ws : Words) → IsFault (entry_as t ws)
as-fault none ws = ten
as-fault is_dir ws = tt
as-fault is_file ws = each-fault (values (text "size") ws) (values (text "sha256digest") ws)
as-fault is_other ws = ten
as-fault twice ws = nine

-- a fault of those numbers, a file or an empty folder
pub record Proper (x : Entry) : Type 0 where
  pub fault : IsFault x
  pub good : GoodEntry x

pub entry-proper : (d : Said) (ws : Words) → Proper (entry_of d ws)
unfolding entry_of
entry-proper d ws = record { fault = as-fault (type_in d ws) ws; good = entry-good (type_in d ws) ws }

-- an entry by what is handed back
pub by-fault : (x : Entry) (k : ℕ) → Err k ≡ held_of x → x ≡ faulty k
by-fault (faulty n) k e = cc
by-fault (holds absent) k e = never (cc)
by-fault (holds (file c)) k e = never (cc)
by-fault (holds (folder f)) k e = never (cc)

-- the root by what is handed back
pub root-folder : (t : Said) → Ok tt ≡ root_due (root_as t) → root_as t ≡ holds (folder end)
root-folder none e = never (cc)
root-folder is_dir e = refl
root-folder is_file e = never (cc)
root-folder is_other e = never (cc)
root-folder twice e = never (cc)

pub root-fault : (t : Said) (n : ℕ) → Err n ≡ root_due (root_as t) → (root_as t ≡ faulty n) × (0 < n)
root-fault none n e = let q : n ≡ 10 = cc in rw q (refl, omega arith)
root-fault is_dir n e = never (cc)
root-fault is_file n e = let q : n ≡ 10 = cc in rw q (refl, omega arith)
root-fault is_other n e = let q : n ≡ 10 = cc in rw q (refl, omega arith)
root-fault twice n e = let q : n ≡ 9 = cc in rw q (refl, omega arith)
