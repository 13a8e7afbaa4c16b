-- The examples: what listings give, by one computation, what is written, and the limits.
use mathlib.Core.List.{map}
use mathlib.Core.Path.{◌≡◌, refl}
use lib.ListN.{length}
use borrow.Author.Tests.{lt-leb}
use Rattle.tree.specs.Name.{cmp}
use Rattle.tree.specs.Forest.{at, find, size}
use Rattle.tree.specs.Key.{entry, fold, key, lower, lower_word, put_in, update_in}
use Rattle.tree.specs.declared.Profile.{Profile}
use Rattle.tree.specs.declared.Profile.TheVariants.{Exact, Folded}
use Rattle.tree.specs.Rules.{bytes, good_name, zero_filled, zeros}
use Rattle.tree.specs.Same.{same_words}
use Rattle.listing.specs.Bytes.{class_of, digit_value}
use Rattle.listing.specs.Lines.{len_in, lines_from}
use Rattle.listing.specs.Words.{is_text, key_len, span, values, words_from}
use Rattle.listing.specs.Names.{decode_from, is_name, packed}
use Rattle.listing.specs.Values.{decimal_from, digits, hex_bytes, is_digest, is_size}
use Rattle.listing.specs.Entries.{entry_of, type_in}
use Rattle.listing.specs.Reading.{close_line, entry_line, placed, reading, root_line, run, set_line, slash_line, unset_line, words_do}
use Rattle.listing.specs.Writing.{as_it_is, decimal, dir_line, file_line, hex, lines_of, spell, spell_byte, text_of}
use Rattle.listing.specs.Examples.{Example, ExamplesHold, as_they_are, examples, nest, nested, up_from}

-- by one computation each
all-given : (p : Profile) → map (λ (x : Example). reading p x.listing x.room) examples ≡ map (λ (x : Example). x.gives) examples
unfolding cmp at find entry fold key lower lower_word put_in update_in bytes good_name zero_filled zeros same_words class_of digit_value len_in lines_from is_text key_len span values words_from decode_from is_name packed decimal_from digits hex_bytes is_digest is_size entry_of type_in size close_line entry_line placed reading root_line run set_line slash_line unset_line words_do nest nested up_from
all-given Exact = refl
all-given Folded = refl

pub examples-hold : ExamplesHold
unfolding cmp at find entry fold key lower lower_word put_in update_in bytes good_name zero_filled zeros same_words class_of digit_value len_in lines_from is_text key_len span values words_from decode_from is_name packed decimal_from digits hex_bytes is_digest is_size entry_of type_in size close_line entry_line placed reading root_line run set_line slash_line unset_line words_do as_it_is decimal dir_line file_line hex lines_of spell spell_byte text_of nest nested up_from as_they_are
examples-hold =
    record { given = all-given; exact = refl; folded = refl; long = λ p t room h. rw (lt-leb (length t) 65536 h); written = refl; plain = refl; rows = refl; refusal = refl; success = refl }
