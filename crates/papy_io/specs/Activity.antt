-- What a desk is busy with.
use Rattle.std.specs.Prelude.{◌≡◌, ◌⊎◌, ℕ, List, Option, None, Some, refl}
use Rattle.std.specs.Coded.{Coded, code_by, coded_ℕ, coded_list, coded_option, coded×, coded⊎}
use Rattle.std.proofs.Common.{inl, inr}

pub data Activity : Type 0 where
  Idle : Activity
  Reading : (name : List ℕ) (left : Option (List ℕ)) → Activity
  Writing : (name : List ℕ) → Activity

-- a name is being read
abbrev pub IsReading : Activity → Type 0
IsReading Idle = ⊥
IsReading (Reading name left) = Unit {0}
IsReading (Writing name) = ⊥

-- a name is being written
abbrev pub IsWriting : Activity → Type 0
IsWriting Idle = ⊥
IsWriting (Reading name left) = ⊥
IsWriting (Writing name) = Unit {0}

-- how an activity is stored as part of a value
abbrev pub parts : Activity → (List ℕ × Option (List ℕ)) ⊎ Option (List ℕ)
parts Idle = inr None
parts (Reading name left) = inl (name, left)
parts (Writing name) = inr (Some name)

abbrev pub whole : (List ℕ × Option (List ℕ)) ⊎ Option (List ℕ) → Activity
whole (inl p) = Reading p.0 p.1
whole (inr None) = Idle
whole (inr (Some name)) = Writing name

pub whole_parts : (a : Activity) → whole (parts a) ≡ a
whole_parts Idle = refl
whole_parts (Reading name left) = refl
whole_parts (Writing name) = refl

abbrev pub coded_name : Coded (List ℕ)
coded_name = coded_list coded_ℕ

abbrev pub coded_activity : Coded Activity
coded_activity = code_by ((List ℕ × Option (List ℕ)) ⊎ Option (List ℕ)) (coded⊎ (coded× coded_name (coded_option coded_name)) (coded_option coded_name)) parts whole whole_parts
