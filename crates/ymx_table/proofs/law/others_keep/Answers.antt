-- The law, clause by clause.
use Rattle.std.proofs.Common.{sym, ◌∙◌, ap}
use Rattle.ymx_machine.specs.shared.Lists.{look}
use Rattle.ymx_table.proofs.Others.{look-change_same, keys-change, look-without_other, look-without_same, look-added_same, without-change, without-added, without-without}
use Rattle.ymx_table.proofs.law.others_keep.Goals as goal

pub returns-clause-on_others : goal.returns-clause-on_others
returns-clause-on_others c = λ id f t. without-change id f t.entries

pub returns-clause-added_others : goal.returns-clause-added_others
returns-clause-added_others c = λ id e t absent. without-added id e t.entries absent

pub returns-clause-removed_others : goal.returns-clause-removed_others
returns-clause-removed_others c = λ id t distinct. without-without id t.entries distinct

pub returns-clause-found_others : goal.returns-clause-found_others
returns-clause-found_others c = λ id other s t same apart.
    sym (look-without_other id other t.entries apart) ∙ ap (look other) same ∙ look-without_other id other s.entries apart

pub returns-clause-on_ids : goal.returns-clause-on_ids
returns-clause-on_ids c = λ id f t. keys-change id f t.entries

pub returns-clause-on_one : goal.returns-clause-on_one
returns-clause-on_one c = λ id f t. look-change_same id f t.entries

pub returns-clause-added_one : goal.returns-clause-added_one
returns-clause-added_one c = λ id e t absent. look-added_same id e t.entries absent

pub returns-clause-removed_one : goal.returns-clause-removed_one
returns-clause-removed_one c = λ id t distinct. look-without_same id t.entries distinct
