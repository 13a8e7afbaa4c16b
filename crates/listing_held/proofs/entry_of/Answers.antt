-- `entry_of` meets its contract, type by type.
use mathlib.Core.Path.{◌≡◌, sym, ap, ◌∙◌}
use borrow.Author.Rules.{rules}
use Rattle.std.proofs.Common.{Some, Ok, Err}
use Rattle.listing.specs.Entries.{type_in, entry_of}
use Rattle.listing_keywords.specs.Entries.{held_of}
use Rattle.listing_keywords.proofs.Entries.{entry-bad, entry-folder, entry-file, entry-untold}
use Rattle.listing_held.proofs.entry_of.Goals as goal

pub returns-in_err-type_by : goal.returns-in_err-type_by
unfolding entry_of type_in
returns-in_err-type_by c =
    let r : c.from_residual.result ≡ Err c.in_err-type_by.field-0.0 = search rules in
    λ d e. r ∙ entry-bad _ _ _ (sym c.in_err-type_by.was ∙ c.type_by.ensures _ _ d c.find_keys-h.ensures.kind e)

pub returns-in-Some-Dir : goal.returns-in-Some-Dir
unfolding entry_of type_in
returns-in-Some-Dir c =
    let w = c.in_ok-type_by.was in
    let x = c.in-Some-Dir.is in
    λ d e. entry-folder _ _ (sym (w ∙ ap Ok (x ∙ ap Some c.in-Some-Dir.field-0-is)) ∙ c.type_by.ensures _ _ d c.find_keys-h.ensures.kind e)

pub returns-in-Some-File : goal.returns-in-Some-File
unfolding entry_of type_in
returns-in-Some-File c =
    let f = c.find_keys-h.ensures in
    let w = c.in_ok-type_by.was in
    let x = c.in-Some-File.is in
    λ d e. c.file_of.ensures _ _ _ f.size f.digest ∙ ap held_of (entry-file _ _ (sym (w ∙ ap Ok (x ∙ ap Some c.in-Some-File.field-0-is)) ∙ c.type_by.ensures _ _ d f.kind e))

pub returns-in-None : goal.returns-in-None
unfolding entry_of type_in
returns-in-None c = λ d e. entry-untold _ _ (sym (c.in_ok-type_by.was ∙ ap Ok c.in-None.is) ∙ c.type_by.ensures _ _ d c.find_keys-h.ensures.kind e)
