-- Heads of scripts as they are made.
use Rattle.std.proofs.Common.{◌≡◌, ℕ, List, [], ◌∷◌, ◌++◌, map, Option, Some, sym, ap, ◌∙◌}
use Rattle.std.proofs.lemmas.List.{map-append}
use Rattle.pex_verify.specs.declared.scripts.Signature.{Signature}
use Rattle.pex_verify.specs.Signatures.{Declared, declared_of}
use Rattle.pex_verify.specs.Heads.{Members, member_at}
use Rattle.pex_verify.proofs.Pairs.{behind_next}

abbrev shown : List Signature → List (Option Declared)
shown functions = map Some (map declared_of functions)

-- one more member that the script lacks
pub offers_next : (members : Members) (own : List (Option Declared)) (functions more : List Signature) (lacking later : List ℕ) (signature : Signature) (place : ℕ) → more ≡ functions ++ signature ∷ [] → later ≡ lacking ++ place ∷ []
    → member_at members place ≡ Some (declared_of signature) → shown functions ≡ own ++ map (member_at members) lacking → shown more ≡ own ++ map (member_at members) later
offers_next members own functions more lacking later signature place grown also at before =
    behind_next (member_at members) own (shown functions) (shown more) lacking later place
    (ap shown grown
    ∙ ap (map Some) (map-append declared_of functions (signature ∷ []))
    ∙ map-append Some (map declared_of functions) (declared_of signature ∷ [])
    ∙ ap (λ (o : Option Declared). shown functions ++ o ∷ []) (sym at))
    also before
