-- C12 and C13, and days that differ in letter case, from their listings to the last byte printed, by computing.
use mathlib.Core.Path.{refl}
use Rattle.tree.specs.Name.{cmp}
use Rattle.tree.specs.Forest.{at, find, size}
use Rattle.tree.specs.Key.{lower, lower_word, key, fold, entry, spelling, update_in, put_in}
use Rattle.tree.specs.Rules.{bytes, good_name, zero_filled, zeros}
use Rattle.tree.specs.Same.{same_forest, same_node, same_words}
use Rattle.settle.specs.Decision.{decide}
use Rattle.settle.specs.Names.{insert, into, names}
use Rattle.settle.specs.Plan.{plan, plan_over, settle_in}
use Rattle.settle.specs.Results.{list}
use Rattle.plan.specs.Items.{kind}
use Rattle.plan_tally.specs.Count.{tally_of}
use Rattle.listing.specs.Bytes.{class_of, digit_value}
use Rattle.listing.specs.Lines.{len_in, lines_from}
use Rattle.listing.specs.Words.{is_text, key_len, span, values, words_from}
use Rattle.listing.specs.Names.{decode_from, is_name, packed}
use Rattle.listing.specs.Values.{decimal_from, digits, hex_bytes, is_digest, is_size}
use Rattle.listing.specs.Entries.{entry_of, type_in}
use Rattle.listing.specs.Reading.{close_line, entry_line, placed, reading, root_line, run, words_do}
use Rattle.listing.specs.Writing.{as_it_is, decimal, dir_line, file_line, hex, lines_of, spell, spell_byte, text_of}
use Rattle.table_route.specs.Route.{spelled_in}
use Rattle.plan_text.specs.Spelled.{run_text}
use Rattle.plan_text.specs.Text.{counts_text, lines_text, mark, marked, names_text, path_text, plan_text}
use Rattle.printout_text.specs.Printed.{file_read, printed}
use Rattle.printout_text.specs.Cases.{PrintedFromTexts, PrintedInProfiles}

pub printed-from-texts : PrintedFromTexts
unfolding
    cmp at find size lower lower_word key fold entry spelling update_in put_in bytes good_name zero_filled zeros same_forest same_node same_words decide insert into names plan plan_over settle_in list kind tally_of class_of digit_value len_in lines_from is_text key_len span values words_from decode_from is_name packed decimal_from digits hex_bytes is_digest is_size entry_of type_in close_line entry_line placed reading root_line run words_do as_it_is decimal dir_line file_line hex lines_of spell spell_byte text_of counts_text lines_text mark marked names_text path_text plan_text spelled_in run_text file_read printed
printed-from-texts = refl

pub printed-in-profiles : PrintedInProfiles
unfolding
    cmp at find size lower lower_word key fold entry spelling update_in put_in bytes good_name zero_filled zeros same_forest same_node same_words decide insert into names plan plan_over settle_in list kind tally_of class_of digit_value len_in lines_from is_text key_len span values words_from decode_from is_name packed decimal_from digits hex_bytes is_digest is_size entry_of type_in close_line entry_line placed reading root_line run words_do as_it_is decimal dir_line file_line hex lines_of spell spell_byte text_of counts_text lines_text mark marked names_text path_text plan_text spelled_in run_text file_read printed
printed-in-profiles = refl
