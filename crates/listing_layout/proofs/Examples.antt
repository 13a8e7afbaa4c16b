-- The two layouts are of one tree, and the order of the two texts matters, each step by computation.
use mathlib.Core.Path.{◌≡◌, refl}
use mathlib.Core.List.{[], ◌++◌}
use Rattle.tree.specs.Name.{cmp}
use Rattle.tree.specs.Forest.{Forest.end, at, find, size}
use Rattle.tree.specs.Key.{entry, fold, key, lower, lower_word, put_in, update_in}
use Rattle.tree.specs.declared.Profile.{Profile}
use Rattle.tree.specs.declared.Profile.TheVariants.{Exact, Folded}
use Rattle.tree.specs.Rules.{bytes, good_name, zero_filled, zeros}
use Rattle.tree.specs.Same.{same_words}
use Rattle.listing.specs.Bytes.{class_of, digit_value}
use Rattle.listing.specs.Lines.{len_in, lines_from}
use Rattle.listing.specs.Words.{is_text, key_len, span, values, words_from}
use Rattle.listing.specs.Names.{decode_from, is_name, packed}
use Rattle.listing.specs.Values.{decimal_from, digits, hex_bytes, is_digest, is_size}
use Rattle.listing.specs.Entries.{Said.is_dir, Said.is_file, entry_of, type_in}
use Rattle.listing.specs.Reading.{Outcome.accepted, Outcome.refused, close_line, entry_line, placed, reading, root_line, run, set_line, slash_line, unset_line, words_do}
use Rattle.listing_layout.specs.Whole.{pieces, whole_from}
use Rattle.listing_layout.specs.Said.{said_by}
use Rattle.listing_layout.specs.Parts.{Part, through}
use Rattle.listing_layout.specs.Order.{Reordered.same, Reordered.swapped}
use Rattle.listing_layout.specs.Relaid.{Relaid.as_is, Relaid.respaced, Relaid.reordered}
use Rattle.listing_layout.specs.Examples.{ExamplesHold, bare, bottom, first, folder_a, folder_b, second, top}

-- where two names are compared, each profile by itself
by-profile : (p : Profile)
    → Part p 20 is_dir (folder_a end) is_file (pieces first)
    × (reading p (top ++ (bare ++ (first ++ bottom))) 400 ≡ accepted (folder_a folder_b))
    × (reading p (top ++ (first ++ (bare ++ bottom))) 400 ≡ refused 9 8)
unfolding cmp at find entry fold key lower lower_word put_in update_in bytes good_name zero_filled zeros same_words class_of digit_value len_in lines_from is_text key_len span values words_from decode_from is_name packed decimal_from digits hex_bytes is_digest is_size entry_of type_in size close_line entry_line placed reading root_line run set_line slash_line unset_line words_do whole_from through said_by
by-profile Exact = (refl, refl, refl)
by-profile Folded = (refl, refl, refl)

pub examples-hold : (p : Profile) → ExamplesHold p
unfolding cmp at find entry fold key lower lower_word put_in update_in bytes good_name zero_filled zeros same_words class_of digit_value len_in lines_from is_text key_len span values words_from decode_from is_name packed decimal_from digits hex_bytes is_digest is_size entry_of type_in size close_line entry_line placed reading root_line run set_line slash_line unset_line words_do whole_from through said_by
examples-hold p =
    record {
      relaid =
          reordered (swapped top first second bottom (record {
            whole-a = refl;
            whole-x = refl;
            whole-y = refl;
            tree = end;
            path = [];
            default = is_dir;
            open-there = refl;
            entries-x = folder_a end;
            entries-y = folder_b;
            left = is_file;
            x-first = record { between = is_file; first = (by-profile p).0; second = refl };
            y-first = record { between = is_dir; first = refl; second = (by-profile p).0 };
          }) same) (respaced refl refl as_is);
      comes-first = (by-profile p).1;
      comes-second = (by-profile p).2;
    }
