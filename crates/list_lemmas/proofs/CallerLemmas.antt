-- What a crate above cites of lists.

-- ONE ITEM CHANGED

-- a write of what the item changes to
pub use Rattle.list_lemmas.proofs.ChangedLemmas.{slice_set-changed}
-- a write of one item, whatever stood there
pub use Rattle.list_lemmas.proofs.ChangedLemmas.{slice_set-constant}
-- where there is no such item, nothing changes
pub use Rattle.list_lemmas.proofs.ChangedLemmas.{changed_at-past}
-- the item behind a list
pub use Rattle.list_lemmas.proofs.ChangedLemmas.{changed_at-append}
-- a change behind what is dropped
pub use Rattle.list_lemmas.proofs.ChangedLemmas.{changed_at-drop}
-- a write as a view sees it, and one that it doesn't see
pub use Rattle.list_lemmas.proofs.ChangedLemmas.{map-slice_set, map-slice_set-same}
-- A LIST REWRITTEN IN PLACE

-- the next item is as it was
pub use Rattle.list_lemmas.proofs.InPlaceLemmas.{get_or-mapped_to, get_or-made_to}
-- the next item is written
pub use Rattle.list_lemmas.proofs.InPlaceLemmas.{set-mapped_to, changed_at-mapped_to, set-made_to}
-- the next item is made already
pub use Rattle.list_lemmas.proofs.InPlaceLemmas.{made_to-same}
-- in the end all items are new
pub use Rattle.list_lemmas.proofs.InPlaceLemmas.{mapped_to-all}
-- AN ITEM FOR EACH NUMBER

-- functions that agree give the same list
pub use Rattle.list_lemmas.proofs.RangeLemmas.{map-same, map-range_same}
-- one item of a table changes, and the others stay
pub use Rattle.list_lemmas.proofs.RangeLemmas.{changed_at-table}
-- the item of a number, and none past the last
pub use Rattle.list_lemmas.proofs.RangeLemmas.{slice_get-table, slice_get-past_range}
-- COUNTS

-- the first item and the others, and the items that a function is taken of
pub use Rattle.list_lemmas.proofs.CountLemmas.{count_by-cons, count_by-map}
-- tests that agree, a wider test, and one test or the other
pub use Rattle.list_lemmas.proofs.CountLemmas.{count_by-range_same, count_by-range_most, count_by-or}
-- one number stands in a range once at most
pub use Rattle.list_lemmas.proofs.CountLemmas.{count_by-range_one}
-- one number more at the end
pub use Rattle.list_lemmas.proofs.CountLemmas.{count_by-range_last, count_by-range_more}
-- MEMBERS

-- nothing is in the empty list
pub use Rattle.list_lemmas.proofs.MemberLemmas.{Contains-nil}
-- a member is the first item or one of the others
pub use Rattle.list_lemmas.proofs.MemberLemmas.{Contains-first, Contains-later, Contains-cases}
-- the place of a member
pub use Rattle.list_lemmas.proofs.MemberLemmas.{slice_get-member}
-- what stands behind the first items is a member
pub use Rattle.list_lemmas.proofs.MemberLemmas.{Contains-drop}
-- what a list has at a place it has there when it has grown
pub use Rattle.list_lemmas.proofs.MemberLemmas.{slice_get-append}
-- FILTERS

-- what a filter keeps: the members that pass
pub use Rattle.list_lemmas.proofs.FilterLemmas.{Contains-filter, Contains-filter_passing, filter-passes}
-- tests that agree, and two tests one after the other
pub use Rattle.list_lemmas.proofs.FilterLemmas.{filter-same, filter-both}
-- WHETHER ONE PASSES A TEST, AND WHETHER EACH DOES

-- one passes: a member that does, and the other way round
pub use Rattle.list_lemmas.proofs.AnyLemmas.{list_any-true, list_any-member}
-- none passes: no member does, and the other way round
pub use Rattle.list_lemmas.proofs.AnyLemmas.{list_any-false, list_any-none}
-- none passes in a filter where none does in the list
pub use Rattle.list_lemmas.proofs.AnyLemmas.{list_any-filter}
-- each passes: the item of a place does
pub use Rattle.list_lemmas.proofs.AnyLemmas.{list_all-get_or}
-- in two lists side by side none is found where none passes
pub use Rattle.list_lemmas.proofs.FindLemmas.{find-zip_none}
-- and who isn't found stands behind those that have a partner
pub use Rattle.list_lemmas.proofs.FindLemmas.{list_any-unfound}
