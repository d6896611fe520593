-- What loaded code means, by what it was made of.
use Rattle.std.proofs.Common.{◌≡◌, ℕ, zero, suc, ◌+◌, ◌<◌, List, [], ◌∷◌, ◌++◌, length, Option, Some, None, Result, Ok, Err, IfOk, map, All, refl, sym, ap, subst, ◌∙◌, arith, vec_len}
use Rattle.std.specs.Prelude.{IfSome, slice_get, slice_index_or}
use Rattle.std.specs.List.{AllZip}
use Rattle.std.specs.declared.alloc.Global.{Global}
use Rattle.std.specs.declared.vec.Vec.{Vec}
use Rattle.std.proofs.lemmas.Option.{get_or_from_slice_get}
use Rattle.core_tree.specs.Outlines.{ScriptShape}
use Rattle.papy_base.specs.declared.name.Name.{Name}
use Rattle.code_meaning.specs.Code.{Instruction, Function, Property, State, Access, Full}
use Rattle.loaded_code.specs.declared.instruction.LoadedInstruction.{LoadedInstruction}
use Rattle.loaded_code.specs.declared.operand.Operand.{Operand}
use Rattle.loaded_code.specs.declared.script.LoadedFunction.{LoadedFunction}
use Rattle.loaded_code.specs.declared.script.LoadedProperty.{LoadedProperty}
use Rattle.loaded_code.specs.Plain as coded
use Rattle.pex_verify.specs.declared.action.Action.{Action}
use Rattle.pex_verify.specs.declared.action.Action.TheVariants as action
use Rattle.pex_verify.specs.declared.form.Form.{Form}
use Rattle.pex_verify.specs.declared.form.Form.TheVariants as form
use Rattle.pex_verify.specs.declared.form.PlainForm.{PlainForm}
use Rattle.pex_verify.specs.declared.form.PlainForm.TheVariants as plain
use Rattle.pex_verify.specs.declared.form.ThreeForm.{ThreeForm}
use Rattle.pex_verify.specs.declared.form.TwoForm.{TwoForm}
use Rattle.pex_verify.specs.declared.judged.JudgedFunction.{JudgedFunction}
use Rattle.pex_verify.specs.declared.judged.JudgedInstruction.{JudgedInstruction}
use Rattle.pex_verify.specs.declared.judged.JudgedOperand.{JudgedOperand}
use Rattle.pex_verify.specs.declared.judged.JudgedOperand.TheVariants as given_as
use Rattle.pex_verify.specs.declared.judged.JudgedProperty.{JudgedProperty}
use Rattle.pex_verify.specs.declared.judged.JudgedScript.{JudgedScript}
use Rattle.pex_verify.specs.Accepted.{at}
use Rattle.pex_verify.specs.Coded.{AreCoded, CodePlace, IsCoded, IsCodedFunction, IsCodedProperty, Lands}
use Rattle.pex_verify.specs.Coding.{CodesFunction, CodesInstruction, CodesOperand, CodesProperty, CodesScript, CodesState, CodesWhere, FitsPlain}
use Rattle.pex_verify.specs.JudgedCode as judged
use Rattle.pex_verify.specs.JudgedCode.{Operands, by_form, by_plain, form_at, form_table, given, number_of}
use Rattle.pex_verify.specs.Soundness.{AreSoundInstructions, Bounds, IsSoundFunction, IsSoundInstruction, IsSoundProperty, Leads, LeadsBy, HasSize}
use Rattle.pex_verify.specs.Uses.{action_of, action_table}
use Rattle.pex_verify.proofs.Facts.{item_at}

-- ---- lists side by side
pub zip_push : {X Y : Type 0} (R : X → Y → Type 0) (xs : List X) (ys : List Y) (x : X) (y : Y) → AllZip R xs ys → R x y → AllZip R (xs ++ x ∷ []) (ys ++ y ∷ [])
zip_push R [] [] x y h here = (here, tt)
zip_push R [] (b ∷ ys) x y h here = absurd h
zip_push R (a ∷ xs) [] x y h here = absurd h
zip_push R (a ∷ xs) (b ∷ ys) x y h here = (h.0, zip_push R xs ys x y h.1 here)

pub zip_next : {X Y : Type 0} (R : X → Y → Type 0) (xs : List X) (x : X) (ys later : List Y) (y : Y) → later ≡ ys ++ y ∷ [] → AllZip R xs ys → R x y → AllZip R (xs ++ x ∷ []) later
zip_next R xs x ys later y grown h here = subst (λ zs. AllZip R (xs ++ x ∷ []) zs) (sym grown) (zip_push R xs ys x y h here)

pub zip_same : {X Y Z : Type 0} (R : X → Y → Type 0) (f : X → Z) (g : Y → Z) → ((x : X) (y : Y) → R x y → g y ≡ f x) → (xs : List X) (ys : List Y) → AllZip R xs ys → map g ys ≡ map f xs
zip_same R f g same [] [] h = refl
zip_same R f g same [] (y ∷ ys) h = absurd h
zip_same R f g same (x ∷ xs) [] h = absurd h
zip_same R f g same (x ∷ xs) (y ∷ ys) h =
    ap (λ z. z ∷ map g ys) (same x y h.0) ∙ ap (λ zs. f x ∷ zs) (zip_same R f g same xs ys h.1)

pub zip_count : {X Y : Type 0} (R : X → Y → Type 0) (xs : List X) (ys : List Y) → AllZip R xs ys → length xs ≡ length ys
zip_count R [] [] h = refl
zip_count R [] (y ∷ ys) h = absurd h
zip_count R (x ∷ xs) [] h = absurd h
zip_count R (x ∷ xs) (y ∷ ys) h = ap suc (zip_count R xs ys h.1)

pub zip_each : {X Y : Type 0} (R : X → Y → Type 0) (xs : List X) (ys : List Y) → AllZip R xs ys → (k : ℕ) (x : X) (y : Y) → k < length ys → R (slice_index_or xs k x) (slice_index_or ys k y)
zip_each R [] [] h k x y within = absurd (omega (arith, within))
zip_each R [] (b ∷ ys) h k x y within = absurd h
zip_each R (a ∷ xs) [] h k x y within = absurd h
zip_each R (a ∷ xs) (b ∷ ys) h zero x y within = h.0
zip_each R (a ∷ xs) (b ∷ ys) h (suc k) x y within =
    zip_each R xs ys h.1 k x y (omega (arith, within))

pub zip_all : {X Y : Type 0} (R : X → Y → Type 0) (P : X → Type 0) (Q : Y → Type 0) → ((x : X) (y : Y) → R x y → P x → Q y) → (xs : List X) (ys : List Y) → AllZip R xs ys → All P xs → All Q ys
zip_all R P Q each xs ys h all = λ k y within.
    let i = item_at xs k (omega (arith, zip_count R xs ys h, within)) in
    each (slice_index_or xs k i.item) (slice_index_or ys k y) (zip_each R xs ys h k i.item y within) (all k i.item (omega (arith, zip_count R xs ys h, within)))

-- ---- instructions
-- what each form does
abbrev FormActs : Form → Option Action → Type 0
FormActs (form.Plain plain.Jmp) does = does ≡ Some action.Jump
FormActs (form.Plain plain.JmpT) does = does ≡ Some action.JumpIf
FormActs (form.Plain plain.JmpF) does = does ≡ Some action.JumpIf
FormActs (form.Plain plain.ArrayCreate) does = does ≡ Some action.CreateArray
FormActs _ does = Unit {0}

abbrev nothing : Form
nothing = form.Plain plain.Nop

abbrev Acts : List Form → List Action → Type 0
Acts [] [] = Unit {0}
Acts (kind ∷ forms) (a ∷ actions) = FormActs kind (Some a) × Acts forms actions
Acts _ _ = ⊥

acts_at : (forms : List Form) (actions : List Action) → Acts forms actions → (k : ℕ) → FormActs (slice_index_or forms k nothing) (slice_get actions k)
acts_at [] [] h k = tt
acts_at [] (a ∷ actions) h k = absurd h
acts_at (kind ∷ forms) [] h k = absurd h
acts_at (kind ∷ forms) (a ∷ actions) h zero = h.0
acts_at (kind ∷ forms) (a ∷ actions) h (suc k) = acts_at forms actions h.1 k

all_act : Acts form_table action_table
all_act =
    (tt, (tt, (tt, (tt, (tt, (tt, (tt, (tt, (tt, (tt, (tt, (tt, (tt, (tt, (tt, (tt, (tt, (tt, (tt, (tt, (refl, (refl, (refl, (tt, (tt, (tt, (tt, (tt, (tt, (tt, (refl, (tt, (tt, (tt, (tt, (tt, tt))))))))))))))))))))))))))))))))))))

form_acts : (opcode : ℕ) (kind : Form) → form_at opcode ≡ kind → FormActs kind (action_of opcode)
form_acts opcode kind is =
    subst (λ (f : Form). FormActs f (action_of opcode)) is (acts_at form_table action_table all_act opcode)

-- an instruction that looks nothing up is judged so
plain_fits : (bounds : Bounds) (slots count place : ℕ) (i : JudgedInstruction) (kind : PlainForm) → form_at i.opcode ≡ form.Plain kind → IsSoundInstruction bounds slots count place i
    → FitsPlain (record { scripts = bounds.scripts; count = count; place = place }) kind i.fixed.items i.jump
plain_fits bounds slots count place i plain.Nop is sound = tt
plain_fits bounds slots count place i (plain.Two kind) is sound = tt
plain_fits bounds slots count place i (plain.Three kind) is sound = tt
plain_fits bounds slots count place i (plain.Four kind) is sound = tt
plain_fits bounds slots count place i plain.Return is sound = tt
plain_fits bounds slots count place i plain.Jmp is sound =
    subst (λ does. Leads does place count i.fixed.items i.jump) (form_acts i.opcode (form.Plain plain.Jmp) is) sound.jump
plain_fits bounds slots count place i plain.JmpT is sound =
    subst (λ does. Leads does place count i.fixed.items i.jump) (form_acts i.opcode (form.Plain plain.JmpT) is) sound.jump
plain_fits bounds slots count place i plain.JmpF is sound =
    subst (λ does. Leads does place count i.fixed.items i.jump) (form_acts i.opcode (form.Plain plain.JmpF) is) sound.jump
plain_fits bounds slots count place i plain.ArrayCreate is sound =
    subst (λ does. HasSize does i.fixed.items) (form_acts i.opcode (form.Plain plain.ArrayCreate) is) sound.size

-- it has neither arguments nor scripts
plain_alone : (outline : List ScriptShape) (fixed more : List JudgedOperand) (kind : PlainForm) → by_plain kind (given [] fixed []) ≡ by_plain kind (given outline fixed more)
plain_alone outline fixed more plain.Nop = refl
plain_alone outline fixed more (plain.Two kind) = refl
plain_alone outline fixed more (plain.Three kind) = refl
plain_alone outline fixed more (plain.Four kind) = refl
plain_alone outline fixed more plain.Return = refl
plain_alone outline fixed more plain.Jmp = refl
plain_alone outline fixed more plain.JmpT = refl
plain_alone outline fixed more plain.JmpF = refl
plain_alone outline fixed more plain.ArrayCreate = refl

pub plain_coded : (outline : List ScriptShape) (i : JudgedInstruction) (kind : PlainForm) (c : LoadedInstruction) (operands : List JudgedOperand) → operands ≡ i.fixed.items → form_at i.opcode ≡ form.Plain kind
    → coded.instruction_of c ≡ by_plain kind (given [] operands []) → ((place : CodePlace) → FitsPlain place kind operands i.jump → IsCoded place c) → CodesInstruction outline i c
plain_coded outline i kind c operands same is means sound = record {
  means =
      means
      ∙ ap (λ (o : List JudgedOperand). by_plain kind (given [] o [])) same
      ∙ plain_alone outline i.fixed.items i.more.items kind
      ∙ ap (λ (f : Form). by_form f (given outline i.fixed.items i.more.items)) (sym is);
  sound = λ bounds slots count place s.
      let here : CodePlace = record { scripts = bounds.scripts; count = count; place = place } in
      sound here (subst (λ (o : List JudgedOperand). FitsPlain here kind o i.jump) (sym same) (plain_fits bounds slots count place i kind is s));
}

-- one that looks something up
form_coded : (outline : List ScriptShape) (i : JudgedInstruction) (kind : Form) (c : LoadedInstruction) (operands : List JudgedOperand) → operands ≡ i.fixed.items → form_at i.opcode ≡ kind
    → coded.instruction_of c ≡ by_form kind (given outline operands i.more.items) → ((place : CodePlace) → IfSome i.function (λ f. f.script < place.scripts) → IsCoded place c) → CodesInstruction outline i c
form_coded outline i kind c operands same is means sound = record {
  means =
      means
      ∙ ap (λ (o : List JudgedOperand). by_form kind (given outline o i.more.items)) same
      ∙ ap (λ (f : Form). by_form f (given outline i.fixed.items i.more.items)) (sym is);
  sound = λ bounds slots count place s. sound (record { scripts = bounds.scripts; count = count; place = place }) s.function;
}

pub static_coded : {E : Type 0} (result : Result LoadedInstruction E) (outline : List ScriptShape) (i : JudgedInstruction) (kind : Form) (operands : List JudgedOperand) → operands ≡ i.fixed.items → form_at i.opcode ≡ kind
    → IfOk result (λ c. coded.instruction_of c ≡ by_form kind (given outline operands i.more.items)) → IfOk result (λ c. (place : CodePlace) → IfSome i.function (λ f. f.script < place.scripts) → IsCoded place c)
    → IfOk result (CodesInstruction outline i)
static_coded (Ok c) outline i kind operands same is means sound =
    form_coded outline i kind c operands same is means sound
static_coded (Err e) outline i kind operands same is means sound = tt

pub call_coded : {E : Type 0} (result : Result LoadedInstruction E) (outline : List ScriptShape) (i : JudgedInstruction) (kind : Form) (operands : List JudgedOperand) → operands ≡ i.fixed.items → form_at i.opcode ≡ kind
    → IfOk result (λ c. coded.instruction_of c ≡ by_form kind (given outline operands i.more.items)) → IfOk result (λ c. (place : CodePlace) → IsCoded place c) → IfOk result (CodesInstruction outline i)
call_coded (Ok c) outline i kind operands same is means sound =
    form_coded outline i kind c operands same is means (λ place among. sound place)
call_coded (Err e) outline i kind operands same is means sound = tt

-- ---- operands that are taken one after the other
pub taken : (a b : JudgedOperand) (o : Operand) → CodesOperand a o → a ≡ b → CodesOperand b o
taken a b o codes same = codes ∙ ap judged.operand_of same

pub name_taken : (a b : JudgedOperand) (name : List ℕ) → name ≡ judged.name_of a → a ≡ b → name ≡ judged.name_of b
name_taken a b name is same = is ∙ ap judged.name_of same

pub two_taken : (kind : TwoForm) (a b x : JudgedOperand) (first second : Operand) → CodesOperand a first → CodesOperand x second → x ≡ b
    → judged.by_two kind (coded.operand_of first) (coded.operand_of second) ≡ judged.by_two kind (judged.operand_of a) (judged.operand_of b)
two_taken kind a b x first second one two same =
    ap (λ o. judged.by_two kind o (coded.operand_of second)) one ∙ ap (λ o. judged.by_two kind (judged.operand_of a) o) (taken x b second two same)

pub three_taken : (kind : ThreeForm) (a b d x y : JudgedOperand) (first second third : Operand) → CodesOperand a first → CodesOperand x second → x ≡ b → CodesOperand y third → y ≡ d
    → judged.by_three kind (coded.operand_of first) (coded.operand_of second) (coded.operand_of third) ≡ judged.by_three kind (judged.operand_of a) (judged.operand_of b) (judged.operand_of d)
three_taken kind a b d x y first second third one two same three also =
    ap (λ o. judged.by_three kind o (coded.operand_of second) (coded.operand_of third)) one
    ∙ ap (λ o. judged.by_three kind (judged.operand_of a) o (coded.operand_of third)) (taken x b second two same)
    ∙ ap (λ o. judged.by_three kind (judged.operand_of a) (judged.operand_of b) o) (taken y d third three also)

-- ---- jumps
abbrev landing_or : Option ℕ → ℕ
landing_or None = 0
landing_or (Some landing) = landing

pub leads_lands : (place : CodePlace) (operands : List JudgedOperand) (k : ℕ) (landing : Option ℕ) → LeadsBy place.place place.count (slice_get operands k) landing → Lands place (number_of (at operands k)) (landing_or landing)
leads_lands place operands k landing leads = by (slice_get operands k) landing refl leads
  where
    by : (o : Option JudgedOperand) (l : Option ℕ) → slice_get operands k ≡ o → LeadsBy place.place place.count o l → Lands place (number_of (at operands k)) (landing_or l)
    by None l e h = absurd h
    by (Some (given_as.Int number)) None e h = absurd h
    by (Some (given_as.Int number)) (Some l) e h =
        subst (λ (o : JudgedOperand). Lands place (number_of o) l) (sym (get_or_from_slice_get operands k (given_as.Int number) given_as.NoneValue e)) h
    by (Some given_as.NoneValue) l e h = absurd h
    by (Some (given_as.Word name)) l e h = absurd h
    by (Some (given_as.Quoted text)) l e h = absurd h
    by (Some (given_as.Bool truth)) l e h = absurd h
    by (Some (given_as.Slot number)) l e h = absurd h
    by (Some (given_as.Variable number)) l e h = absurd h
    by (Some given_as.Instance) l e h = absurd h
    by (Some given_as.State) l e h = absurd h

-- ---- functions
pub arguments_same : (operands : List JudgedOperand) (arguments : List Operand) → AllZip CodesOperand operands arguments → map coded.operand_of arguments ≡ map judged.operand_of operands
arguments_same operands arguments zip =
    zip_same CodesOperand judged.operand_of coded.operand_of (λ x y r. r) operands arguments zip

-- what is made of equal parts
pub same_three : {A B C R : Type 0} (f : A → B → C → R) (a k : A) (b l : B) (c m : C) → a ≡ k → b ≡ l → c ≡ m → f a b c ≡ f k l m
same_three f a k b l c m one two three =
    ap (λ x. f x b c) one ∙ ap (λ x. f k x c) two ∙ ap (λ x. f k l x) three

pub same_four : {A B C D R : Type 0} (f : A → B → C → D → R) (a k : A) (b l : B) (c m : C) (d n : D) → a ≡ k → b ≡ l → c ≡ m → d ≡ n → f a b c d ≡ f k l m n
same_four f a k b l c m d n one two three four =
    ap (λ x. f x b c d) one ∙ same_three (f k) b l c m d n two three four

code_means : (outline : List ScriptShape) (code : List JudgedInstruction) (loaded : List LoadedInstruction) → AllZip (CodesInstruction outline) code loaded → map coded.instruction_of loaded ≡ map (judged.instruction_of outline) code
code_means outline code loaded zip =
    zip_same (CodesInstruction outline) (judged.instruction_of outline) coded.instruction_of (λ x y r. r.means) code loaded zip

code_sound : (outline : List ScriptShape) (bounds : Bounds) (slots count : ℕ) (code : List JudgedInstruction) (loaded : List LoadedInstruction) → AllZip (CodesInstruction outline) code loaded
    → AreSoundInstructions bounds slots count code → AreCoded bounds.scripts count loaded
code_sound outline bounds slots count code loaded zip sound = λ k d within.
    let i = item_at code k (omega (arith, zip_count (CodesInstruction outline) code loaded zip, within)) in
    (zip_each (CodesInstruction outline) code loaded zip k i.item d within).sound bounds slots count k (sound k i.item (omega (arith, zip_count (CodesInstruction outline) code loaded zip, within)))

pub function_coded : (outline : List ScriptShape) (f : JudgedFunction) (code : Vec LoadedInstruction Global) → AllZip (CodesInstruction outline) f.code.items code.items
    → CodesFunction outline f (record { name = f.name; result = f.result; is_global = f.is_global; is_native = f.is_native; parameters = f.parameters; locals = f.locals; code = code; lines = f.lines })
function_coded outline f code zip =
    let count : vec_len f.code ≡ vec_len code = f.code.ok.0 ∙ zip_count (CodesInstruction outline) f.code.items code.items zip ∙ sym code.ok.0 in
    record {
      means = ap (λ (instructions : List Instruction). record { name = f.name; parameters = map (λ parameter. parameter.1) f.parameters.items; locals = map (λ local. local.1) f.locals.items; result = f.result; is_global = f.is_global; is_native = f.is_native; code = instructions; lines = f.lines.items }) (code_means outline f.code.items code.items zip);
      sound = λ bounds s. record {
        answer = s.answer;
        parameters = s.parameters;
        locals = s.locals;
        lines = s.lines ∙ count;
        code = subst (λ (n : ℕ). AreCoded bounds.scripts n code.items) count (code_sound outline bounds (vec_len f.parameters + vec_len f.locals) (vec_len f.code) f.code.items code.items zip s.code);
      };
    }

where_means : (outline : List ScriptShape) (a : Option JudgedFunction) (b : Option LoadedFunction) → CodesWhere outline a b → coded.function_where b ≡ judged.function_where outline a
where_means outline None None h = refl
where_means outline None (Some b) h = absurd h
where_means outline (Some a) None h = absurd h
where_means outline (Some a) (Some b) h = ap (λ (f : Function). Some f) h.means

where_sound : (outline : List ScriptShape) (bounds : Bounds) (a : Option JudgedFunction) (b : Option LoadedFunction) → CodesWhere outline a b → IfSome a (IsSoundFunction bounds) → IfSome b (IsCodedFunction bounds.scripts)
where_sound outline bounds None None h s = tt
where_sound outline bounds None (Some b) h s = absurd h
where_sound outline bounds (Some a) None h s = absurd h
where_sound outline bounds (Some a) (Some b) h s = h.sound bounds s

-- ---- properties
abbrev coded_property : JudgedProperty → Option LoadedFunction → Option LoadedFunction → LoadedProperty
coded_property p read write =
    record { name = p.name; kind = p.kind; bits = p.bits; variable = p.variable; read = read; write = write }

access_means : (outline : List ScriptShape) (p : JudgedProperty) (read write : Option LoadedFunction) → CodesWhere outline p.read read → CodesWhere outline p.write write → (variable : Option ℕ)
    → coded.access_of (coded_property p read write) variable ≡ judged.access_of outline p variable
access_means outline p read write reads writes (Some variable) = refl
access_means outline p read write reads writes None =
    ap (λ (r : Option Function). Full r (coded.function_where write)) (where_means outline p.read read reads) ∙ ap (λ (w : Option Function). Full (judged.function_where outline p.read) w) (where_means outline p.write write writes)

pub property_coded : (outline : List ScriptShape) (p : JudgedProperty) (read write : Option LoadedFunction) → CodesWhere outline p.read read → CodesWhere outline p.write write → CodesProperty outline p (coded_property p read write)
property_coded outline p read write reads writes = record {
  means = ap (λ (access : Access). record { name = p.name; access = access }) (access_means outline p read write reads writes p.variable);
  sound = λ bounds s. record {
    kind = s.kind;
    variable = s.variable;
    read = where_sound outline bounds p.read read reads s.read;
    write = where_sound outline bounds p.write write writes s.write;
  };
}

-- ---- scripts
abbrev judged_state : List ScriptShape → Name × Vec JudgedFunction Global → State
judged_state outline state = record { name = state.0; functions = map (judged.function_of outline) state.1.items }

abbrev coded_state : Name × Vec LoadedFunction Global → State
coded_state state = record { name = state.0; functions = map coded.function_of state.1.items }

state_means : (outline : List ScriptShape) (state : Name × Vec JudgedFunction Global) (loaded : Name × Vec LoadedFunction Global) → CodesState outline state loaded → coded_state loaded ≡ judged_state outline state
state_means outline state loaded h =
    ap (λ (name : List ℕ). record { name = name; functions = map coded.function_of loaded.1.items }) h.0
    ∙ ap (λ (functions : List Function). record { name = state.0; functions = functions }) (zip_same (CodesFunction outline) (judged.function_of outline) coded.function_of (λ x y r. r.means) state.1.items loaded.1.items h.1)

pub script_coded : (outline : List ScriptShape) (s : JudgedScript) (properties : Vec LoadedProperty Global) (states : Vec (Name × Vec LoadedFunction Global) Global)
    → AllZip (CodesProperty outline) s.properties.items properties.items → AllZip (CodesState outline) s.states.items states.items → CodesScript outline s (record { properties = properties; states = states })
script_coded outline s properties states of_properties of_states = record {
  means =
      ap (λ (list : List Property). record { properties = list; states = map coded_state states.items }) (zip_same (CodesProperty outline) (judged.property_of outline) coded.property_of (λ x y r. r.means) s.properties.items properties.items of_properties)
      ∙ ap (λ (list : List State). record { properties = map (judged.property_of outline) s.properties.items; states = list }) (zip_same (CodesState outline) (judged_state outline) coded_state (state_means outline) s.states.items states.items of_states);
  sound = λ bounds sound. record {
    properties = zip_all (CodesProperty outline) (IsSoundProperty bounds) (IsCodedProperty bounds) (λ x y r. r.sound bounds) s.properties.items properties.items of_properties sound.properties;
    states = zip_all (CodesState outline) (λ state. All (IsSoundFunction bounds) state.1.items) (λ state. All (IsCodedFunction bounds.scripts) state.1.items)
        (λ x y r all. zip_all (CodesFunction outline) (IsSoundFunction bounds) (IsCodedFunction bounds.scripts) (λ a b q. q.sound bounds) x.1.items y.1.items r.1 all)
        s.states.items states.items of_states (λ k state within. (sound.states k state within).each);
  };
}
