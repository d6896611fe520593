-- The table of a set's members, by what its scripts have.
use Rattle.std.specs.Prelude.{◌≡◌, ℕ, suc, List, [], ◌∷◌, length, Option}
use Rattle.pex_set.specs.Inherited.{Names, AreLaminar, IsNearest, found_in}
use Rattle.papy_base.specs.Ranks.{IsDescentOf}
use Rattle.papy_base.specs.declared.descent.Span.{Span}
use Rattle.pex_set.specs.declared.inherited.OwnMember.{OwnMember}
use Rattle.pex_set.specs.declared.inherited.Stretch.{Stretch}
use Rattle.pex_verify.specs.declared.members.MemberLists.{MemberLists}
use Rattle.pex_verify.specs.declared.members.MemberTable.{MemberTable}
use Rattle.pex_verify.specs.declared.scripts.ScriptHead.{ScriptHead}
use Rattle.pex_verify.specs.Heads.{Placed}
use Rattle.pex_verify.specs.Members.{with_script}

-- no members yet, of scripts with these ranks
abbrev pub no_members : List Span → MemberLists
no_members descent = record { descent = descent; methods = []; properties = [] }

-- the members of these objects, the first of which has this number, go behind those that are there
abbrev pub collected : MemberLists → ℕ → List Placed → List ScriptHead → MemberLists
collected lists number (o ∷ objects) (head ∷ heads) =
    collected (with_script lists number o.source.names.now o.object head) (suc number) objects heads
collected lists number _ _ = lists

-- the members of all objects
abbrev pub all_members : List Span → List Placed → List ScriptHead → MemberLists
all_members descent objects heads = collected (no_members descent) 0 objects heads

-- of each script, by the numbers of names, the nearest member from itself upward
abbrev pub Inherits : List OwnMember → List Stretch → Type 0
Inherits members table =
    AreLaminar members → (names : Names) (rank : ℕ) → IsNearest members names rank (found_in table names rank)

pub record IsTable (parents : List (Option ℕ)) (objects : List Placed) (heads : List ScriptHead) (table : MemberTable) : Type 0 where
  pub count : length table.descent ≡ length parents
  pub descent : IsDescentOf parents table.descent
  pub methods : Inherits (all_members table.descent objects heads).methods table.methods
  pub properties : Inherits (all_members table.descent objects heads).properties table.properties
