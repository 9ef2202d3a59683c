-- What a service's law needs of a table of one entry: a call that is listed, and whose value fits its arguments, names
-- a procedure of the entry, and a version within the range of the entry.
use Rattle.std.proofs.Common.{ℕ, Bool, true, false, Result, Some, None, Err}
use Rattle.std.specs.Prelude.{if◌then◌else◌, ◌||◌, nat_lt}
use Rattle.courier_types.specs.Value.{ValueModel}
use Rattle.courier_calls.specs.Table.{EntryModel, ProcedureModel, procedure_of}
use Rattle.courier_messages.specs.Rejects.{no_such_version, version_words}
use Rattle.courier_calls.specs.Calls.{SeenModel, in_entries, in_procedures, HasArguments}

-- P holds of the procedure of this number, if the entry has the procedure and the value fits its arguments
abbrev pub OfEntry : (Result (EntryModel × ProcedureModel) SeenModel → Type 0) → EntryModel → ℕ → ValueModel → Type 0
OfEntry P e procedure v = HasArguments (in_procedures e (procedure_of e.procedures procedure)) v
    → P (in_procedures e (procedure_of e.procedures procedure))

in_range : (P : Result (EntryModel × ProcedureModel) SeenModel → Type 0) (e : EntryModel) (procedure : ℕ) (v : ValueModel) (outside : Bool)
    → OfEntry P e procedure v
    → HasArguments (if outside then Err (SeenModel.rejected no_such_version (version_words e.low e.high)) else in_procedures e
    (procedure_of e.procedures procedure)) v
    → P (if outside then Err (SeenModel.rejected no_such_version (version_words e.low e.high)) else in_procedures e
    (procedure_of e.procedures procedure))
in_range P e procedure v true f h = absurd h
in_range P e procedure v false f h = f h

pub of_one_entry : (P : Result (EntryModel × ProcedureModel) SeenModel → Type 0) (e : EntryModel) (version procedure : ℕ) (v : ValueModel)
    (listed : Bool) → OfEntry P e procedure v
    → HasArguments (in_entries (if listed then Some e else None) version procedure) v
    → P (in_entries (if listed then Some e else None) version procedure)
of_one_entry P e version procedure v false f h = absurd h
of_one_entry P e version procedure v true f h = in_range P e procedure v (nat_lt version e.low || nat_lt e.high version) f h
