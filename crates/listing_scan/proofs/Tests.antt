-- Tests on a byte that tell its class in part, for every byte by computing.
use mathlib.Core.Path.{◌≡◌, refl}
use mathlib.Core.List.{List}
use mathlib.Core.Bool.{Bool, true, false, cond, not}
use native.Mathlib.Decide.{ℕ_discrete}
use lib.Dec.{eqb, ltb}
use Prim.Native.Nat.{ℕ, ◌<◌}
use borrow.Author.Tests.{lt-ltb, ne_eqb, not-true}
use Rattle.tree.proofs.Never.{never}
use Rattle.listing.specs.Bytes.{class_of}
use Rattle.listing.specs.Lines.{by_end}
use Rattle.listing.specs.Words.{is_refused, parts}
use Rattle.listing.specs.declared.Class.{Class}
use Rattle.listing.specs.declared.Class.TheVariants.{Plain, Escape, Blank, LineEnd, Hash, Mark, Refused}
use Rattle.listing.specs.declared.Mode.{Mode}
use Rattle.listing.specs.declared.Mode.TheVariants.{Body, BodyBack}
use Rattle.tree.proofs.Every.{every, every-at}

-- classes that never part words
abbrev solid : Class → Bool
solid Blank = false
solid LineEnd = false
solid Escape = false
solid Plain = true
solid Hash = true
solid Mark = true
solid Refused = true

solid-parts : (c : Class) (bs : List ℕ) → solid c ≡ true → parts c bs ≡ false
solid-parts Blank bs e = never (cc)
solid-parts LineEnd bs e = never (cc)
solid-parts Escape bs e = never (cc)
solid-parts Plain bs e = refl
solid-parts Hash bs e = refl
solid-parts Mark bs e = refl
solid-parts Refused bs e = refl

abbrev solid_test : ℕ → Bool
solid_test b = cond (ltb 32 b) (cond (eqb b 92) true (solid (class_of b))) true

solid-all : every 256 solid_test ≡ true
unfolding class_of
solid-all = refl

pub above-blanks : (b : ℕ) (bs : List ℕ) → b < 256 → 32 < b → (b ≡ 92 → ⊥) → parts (class_of b) bs ≡ false
above-blanks b bs s h n = solid-parts (class_of b) bs (rw (lt-ltb 32 b h, ne_eqb b 92 n) at (every-at 256 solid_test solid-all b s))

-- bytes from 32 to 126 are not of number 7
abbrev text_test : ℕ → Bool
text_test b = cond (ltb 31 b) (not (is_refused (class_of b))) true

text-all : every 127 text_test ≡ true
unfolding class_of
text-all = refl

pub in-text : (b : ℕ) → 31 < b → b < 127 → is_refused (class_of b) ≡ false
in-text b h s = not-true (is_refused (class_of b)) (rw (lt-ltb 31 b h) at (every-at 127 text_test text-all b s))

-- a byte in a line in which a word has begun: LF, a backslash, any other
abbrev other : Class → Bool
other LineEnd = false
other Escape = false
other Blank = true
other Plain = true
other Hash = true
other Mark = true
other Refused = true

other-end : (c : Class) (x y z : Mode) → other c ≡ true → by_end c x y z ≡ z
other-end LineEnd x y z e = never (cc)
other-end Escape x y z e = never (cc)
other-end Blank x y z e = refl
other-end Plain x y z e = refl
other-end Hash x y z e = refl
other-end Mark x y z e = refl
other-end Refused x y z e = refl

abbrev other_test : ℕ → Bool
other_test b = cond (eqb b 10) true (cond (eqb b 92) true (other (class_of b)))

other-all : every 256 other_test ≡ true
unfolding class_of
other-all = refl

-- Body, or right after a backslash
abbrev pub after : Bool → Mode
after true = BodyBack
after false = Body

pub end-lf : (x y z : Mode) → by_end (class_of 10) x y z ≡ x
unfolding class_of
end-lf x y z = refl

end_back : (x y z : Mode) → by_end (class_of 92) x y z ≡ y
unfolding class_of
end_back x y z = refl

pub end-other : (b : ℕ) (x : Mode) → b < 256 → (b ≡ 10 → ⊥) → by_end (class_of b) x BodyBack Body ≡ after (eqb b 92)
end-other b x s n = go (ℕ_discrete b 92)
  where
    go : Dec (b ≡ 92) → by_end (class_of b) x BodyBack Body ≡ after (eqb b 92)
    go (yes e) = rw e (end_back x BodyBack Body)
    go (no e) = rw (ne_eqb b 92 e) (other-end (class_of b) x BodyBack Body (rw (ne_eqb b 10 n, ne_eqb b 92 e) at (every-at 256 other_test other-all b s)))
