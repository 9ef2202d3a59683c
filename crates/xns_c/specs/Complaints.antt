-- Error packets about packets that came (XSIS 028112, Error Protocol).
use Rattle.std.specs.Prelude.{ℕ, List, drop}
use Rattle.xns_idp.specs.declared.address.Address.{Address}
use Rattle.xns_small.specs.ErrorReport.{MayBeComplainedOf, complaint, error_of}
use Rattle.xns_c.specs.Buffers.{WritesIf}
use Rattle.xns_c.specs.Given.{TellsFront}

-- an Error packet about bytes is written. Where one must not complain of the bytes nothing is written
abbrev pub WritesComplaint : Address → (number parameter : ℕ) → (offending old new : List ℕ) → (had told result : ℕ) → Type 0
WritesComplaint own number parameter offending old new had told result =
    WritesIf (MayBeComplainedOf offending) (λ z. complaint own number parameter offending) old new had told result

-- the number and the parameter of an Error packet are told of its data, 4 bytes, behind which stands what it quotes
abbrev pub TellsError : List ℕ → (was told : ℕ × ℕ) → (result : ℕ) → Type 0
TellsError body was told result =
    TellsFront 4 (error_of body) (λ (t : ℕ × ℕ). record { number = t.0; parameter = t.1; quoted = drop 4 body }) body was told result
