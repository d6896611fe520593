-- Changes of one file, one after another.
use Rattle.std.proofs.Common.{◌≡◌, ℕ, List, ◌++◌, length, take, Option, None, Some, Result, Ok, Err, IsErr, sym, ◌∙◌, ap, subst, inl}
use Rattle.std.specs.Option.{option_map}
use Rattle.std.proofs.Math.Seq.{take-length}
use Rattle.std.proofs.lemmas.Bool.{false≢true}
use Rattle.papy_io.specs.Files.{Files, ChangesTold}
use Rattle.papy_io.specs.declared.fault.IoFault.{IoFault}
use Rattle.papy_io.specs.declared.fault.IoFault.TheVariants.{Failed, OutOfMemory}
use Rattle.papy_io.specs.Activity.{Activity, Writing}
use Rattle.papy_io.specs.Desk.{Empties, Appends, AppendsSome, WritesOn}
use Rattle.papy_io.specs.WriteFile.{MayHold, WritesFile}

pub weaker : (name : List ℕ) (P R : Option (List ℕ) → Option (List ℕ) → Type 0) → ((a b : Option (List ℕ)) → P a b → R a b) → (old new : Option Files) → ChangesTold name P old new → ChangesTold name R old new
weaker name P R h None None c = tt
weaker name P R h None (Some new) c = absurd c
weaker name P R h (Some old) None c = absurd c
weaker name P R h (Some old) (Some new) c = record { file = h _ _ c.file; others = c.others }

pub twice : (name : List ℕ) (P Q R : Option (List ℕ) → Option (List ℕ) → Type 0) → ((a b c : Option (List ℕ)) → P a b → Q b c → R a c) → (old mid new : Option Files) → ChangesTold name P old mid → ChangesTold name Q mid new → ChangesTold name R old new
twice name P Q R h None None None c d = tt
twice name P Q R h None None (Some new) c d = absurd d
twice name P Q R h None (Some mid) new c d = absurd c
twice name P Q R h (Some old) None new c d = absurd c
twice name P Q R h (Some old) (Some mid) None c d = absurd d
twice name P Q R h (Some old) (Some mid) (Some new) c d =
    record { file = h _ _ _ c.file d.file; others = λ other ne. d.others other ne ∙ c.others other ne }

pub emptied_then_some : (bytes : List ℕ) (a b c : Option (List ℕ)) → Empties a b → AppendsSome bytes b c → MayHold bytes a c
emptied_then_some bytes a b c e g = inl (g.0, g.1 ∙ ap (option_map (λ held. held ++ take g.0 bytes)) e)

pub emptied_only : (bytes : List ℕ) (a b : Option (List ℕ)) → Empties a b → MayHold bytes a b
emptied_only bytes a b e = inl (0, e)

-- whatever a write into an emptied file answered, the file may hold these bytes
pub writes_may_hold : (name bytes : List ℕ) (busy : Activity) (r : Result (Unit {0}) IoFault) (old mid new : Option Files) → busy ≡ Writing name → ChangesTold name Empties old mid → WritesOn busy r bytes mid new → ChangesTold name (MayHold bytes) old new
writes_may_hold name bytes busy r old mid new is c w =
    written r (subst (λ a. WritesOn a r bytes mid new) is w) where
      written : (r : Result (Unit {0}) IoFault) → WritesOn (Writing name) r bytes mid new → ChangesTold name (MayHold bytes) old new
      written (Ok u) w = twice name Empties (Appends bytes) (MayHold bytes) (λ x y z e g. emptied_then_some bytes x y z e (length bytes, g ∙ ap (λ t. option_map (λ held. held ++ t) y) (sym (take-length bytes)))) old mid new c w
      written (Err Failed) w = twice name Empties (AppendsSome bytes) (MayHold bytes) (emptied_then_some bytes) old mid new c w
      written (Err OutOfMemory) w = weaker name Empties (MayHold bytes) (emptied_only bytes) old new (subst (λ m. ChangesTold name Empties old m) (sym w) c)

pub writes_file_err : (name bytes : List ℕ) (r : Result (Unit {0}) IoFault) (old new : Option Files) → IsErr r → ChangesTold name (MayHold bytes) old new → WritesFile name bytes r old new
writes_file_err name bytes (Ok u) old new e c = absurd (false≢true e)
writes_file_err name bytes (Err f) old new e c = c
