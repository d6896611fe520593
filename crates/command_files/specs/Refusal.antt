-- The line that tells which rule a file breaks, and where.
use Rattle.std.specs.Prelude.{ℕ, List, [], ◌∷◌, ◌++◌, Option, None, Some, codes}
use Rattle.std.specs.Fmt.{decimal}
use Rattle.pex_codec.specs.declared.faults.PexRule.{PexRule}
use Rattle.pex_codec.specs.declared.faults.PexRule.TheVariants as pex
use Rattle.script_lexer.specs.declared.fault.LexRule.{LexRule}
use Rattle.script_lexer.specs.declared.fault.LexRule.TheVariants as lex
use Rattle.line_parser.specs.declared.fault.LineRule.{LineRule}
use Rattle.line_parser.specs.declared.fault.LineRule.TheVariants as grammar
use Rattle.script_linker.specs.declared.fault.LinkRule.{LinkRule}
use Rattle.script_linker.specs.declared.fault.LinkRule.TheVariants as link
use Rattle.expression_rules.specs.declared.rule.TypeRule.{TypeRule}
use Rattle.expression_rules.specs.declared.rule.TypeRule.TheVariants as typing
use Rattle.pex_listing.specs.declared.faults.ListingRule.{ListingRule}
use Rattle.pex_listing.specs.declared.faults.ListingRule.TheVariants as listing
use Rattle.pex_verify.specs.declared.fault.VerifyRule.{VerifyRule}
use Rattle.pex_verify.specs.declared.fault.VerifyRule.TheVariants as verify
use Rattle.pex_lift.specs.declared.fault.LiftRule.{LiftRule}
use Rattle.pex_lift.specs.declared.fault.LiftRule.TheVariants as lift
use Rattle.run_replay.specs.declared.fault.JournalRule.{JournalRule}
use Rattle.run_replay.specs.declared.fault.JournalRule.TheVariants as journal
use Rattle.scene_reader.specs.declared.fault.SceneRule.{SceneRule}
use Rattle.scene_reader.specs.declared.fault.SceneRule.TheVariants as scene
use Rattle.stack_save.specs.declared.fault.HeldRule.{HeldRule}
use Rattle.stack_save.specs.declared.fault.HeldRule.TheVariants as held
use Rattle.command_files.specs.declared.refusal.Place.{Place}
use Rattle.command_files.specs.declared.refusal.Place.TheVariants.{Offset, Line, Whole, Member}
use Rattle.command_files.specs.declared.refusal.Rule.{Rule}
use Rattle.command_files.specs.declared.refusal.Rule.TheVariants.{Pex, Listing, Lexical, Grammar, Link, Typing, Scene, Verification, Held, Journal, Lifting}

-- the code and the name of each rule
abbrev pub pex_rule_text : PexRule → List ℕ
pex_rule_text pex.BadMagic = codes "P1 BadMagic"
pex_rule_text pex.BadVersion = codes "P2 BadVersion"
pex_rule_text pex.BadGame = codes "P3 BadGame"
pex_rule_text pex.BadDebugFlag = codes "P4 BadDebugFlag"
pex_rule_text pex.BadKind = codes "P5 BadKind"
pex_rule_text pex.BadOpcode = codes "P6 BadOpcode"
pex_rule_text pex.BadCount = codes "P7 BadCount"
pex_rule_text pex.BadIndex = codes "P8 BadIndex"
pex_rule_text pex.BadSize = codes "P9 BadSize"
pex_rule_text pex.Truncated = codes "P10 Truncated"
pex_rule_text pex.Trailing = codes "P11 Trailing"
pex_rule_text pex.TooLarge = codes "P12 TooLarge"

abbrev pub lex_rule_text : LexRule → List ℕ
lex_rule_text lex.BadByte = codes "L1 BadByte"
lex_rule_text lex.OpenText = codes "L2 OpenText"
lex_rule_text lex.BadEscape = codes "L3 BadEscape"
lex_rule_text lex.FloatLiteral = codes "L4 FloatLiteral"
lex_rule_text lex.FloatWord = codes "L5 FloatWord"
lex_rule_text lex.NumberRange = codes "L6 NumberRange"
lex_rule_text lex.TextTooLong = codes "L7 TextTooLong"
lex_rule_text lex.OpenComment = codes "L8 OpenComment"
lex_rule_text lex.TooLarge = codes "L9 TooLarge"

abbrev pub line_rule_text : LineRule → List ℕ
line_rule_text grammar.BadLine = codes "S1 BadLine"
line_rule_text grammar.TooDeep = codes "S2 TooDeep"
line_rule_text grammar.BadBlock = codes "S3 BadBlock"

abbrev pub link_rule_text : LinkRule → List ℕ
link_rule_text link.DuplicateScript = codes "N1 DuplicateScript"
link_rule_text link.PreludeName = codes "N2 PreludeName"
link_rule_text link.UnknownParent = codes "N3 UnknownParent"
link_rule_text link.ExtendsCycle = codes "N4 ExtendsCycle"
link_rule_text link.UnknownImport = codes "N5 UnknownImport"
link_rule_text link.DuplicateMember = codes "N6 DuplicateMember"
link_rule_text link.TwoAutoStates = codes "N7 TwoAutoStates"
link_rule_text link.StateFunctionAlone = codes "N8 StateFunctionAlone"
link_rule_text link.SignatureDiffers = codes "N9 SignatureDiffers"
link_rule_text link.PropertyInParent = codes "N10 PropertyInParent"
link_rule_text link.DefaultOrder = codes "N11 DefaultOrder"
link_rule_text link.Limit = codes "N12 Limit"

abbrev pub type_rule_text : TypeRule → List ℕ
type_rule_text typing.UnknownName = codes "K1 UnknownName"
type_rule_text typing.UnknownType = codes "K2 UnknownType"
type_rule_text typing.NoFunction = codes "K3 NoFunction"
type_rule_text typing.NoProperty = codes "K4 NoProperty"
type_rule_text typing.Arguments = codes "K5 Arguments"
type_rule_text typing.NoConversion = codes "K6 NoConversion"
type_rule_text typing.Operand = codes "K7 Operand"
type_rule_text typing.NotAssignable = codes "K8 NotAssignable"
type_rule_text typing.InstanceInGlobal = codes "K9 InstanceInGlobal"
type_rule_text typing.ReturnValue = codes "K10 ReturnValue"
type_rule_text typing.PropertyDirection = codes "K11 PropertyDirection"
type_rule_text typing.ArraySize = codes "K12 ArraySize"
type_rule_text typing.NoParent = codes "K13 NoParent"
type_rule_text typing.DuplicateLocal = codes "K14 DuplicateLocal"
type_rule_text typing.FunctionTooLarge = codes "K15 FunctionTooLarge"
type_rule_text typing.NoValue = codes "K16 NoValue"

abbrev pub listing_rule_text : ListingRule → List ℕ
listing_rule_text listing.BadLine = codes "G1 BadLine"
listing_rule_text listing.NotCanonical = codes "G2 NotCanonical"
listing_rule_text listing.BadName = codes "G3 BadName"
listing_rule_text listing.End = codes "G4 End"

abbrev pub scene_rule_text : SceneRule → List ℕ
scene_rule_text scene.NotJson = codes "C1 NotJson"
scene_rule_text scene.Shape = codes "C2 Shape"
scene_rule_text scene.Limit = codes "C3 Limit"
scene_rule_text scene.NoScript = codes "C4 NoScript"
scene_rule_text scene.NoProperty = codes "C5 NoProperty"
scene_rule_text scene.NoFunction = codes "C6 NoFunction"
scene_rule_text scene.Arguments = codes "C7 Arguments"
scene_rule_text scene.UnboundNative = codes "C8 UnboundNative"
scene_rule_text scene.NoDevice = codes "C9 NoDevice"
scene_rule_text scene.DuplicateName = codes "C10 DuplicateName"

abbrev pub verify_rule_text : VerifyRule → List ℕ
verify_rule_text verify.FloatOpcode = codes "V1 FloatOpcode"
verify_rule_text verify.FloatValue = codes "V2 FloatValue"
verify_rule_text verify.UnknownParent = codes "V3 UnknownParent"
verify_rule_text verify.ParentCycle = codes "V4 ParentCycle"
verify_rule_text verify.DuplicateName = codes "V5 DuplicateName"
verify_rule_text verify.UnknownVariable = codes "V6 UnknownVariable"
verify_rule_text verify.OperandType = codes "V7 OperandType"
verify_rule_text verify.JumpRange = codes "V8 JumpRange"
verify_rule_text verify.ArgumentCount = codes "V9 ArgumentCount"
verify_rule_text verify.UnknownFunction = codes "V10 UnknownFunction"
verify_rule_text verify.SignatureDiffers = codes "V11 SignatureDiffers"
verify_rule_text verify.TextTooLong = codes "V12 TextTooLong"
verify_rule_text verify.TooMany = codes "V13 TooMany"
verify_rule_text verify.BadPropertyBits = codes "V14 BadPropertyBits"

abbrev pub held_rule_text : HeldRule → List ℕ
held_rule_text held.BadMagic = codes "H1 BadMagic"
held_rule_text held.BadLayout = codes "H2 BadLayout"
held_rule_text held.BadFiles = codes "H3 BadFiles"
held_rule_text held.BadScene = codes "H4 BadScene"
held_rule_text held.BadState = codes "H5 BadState"
held_rule_text held.OtherDevices = codes "H6 OtherDevices"
held_rule_text held.TooLarge = codes "H7 TooLarge"

abbrev pub journal_rule_text : JournalRule → List ℕ
journal_rule_text journal.BadLine = codes "J1 BadLine"
journal_rule_text journal.BadMove = codes "J2 BadMove"

abbrev pub lift_rule_text : LiftRule → List ℕ
lift_rule_text lift.NotLifted = codes "U1 NotLifted"

abbrev pub rule_text : Rule → List ℕ
rule_text (Pex rule) = pex_rule_text rule
rule_text (Listing rule) = listing_rule_text rule
rule_text (Lexical rule) = lex_rule_text rule
rule_text (Grammar rule) = line_rule_text rule
rule_text (Link rule) = link_rule_text rule
rule_text (Typing rule) = type_rule_text rule
rule_text (Scene rule) = scene_rule_text rule
rule_text (Verification rule) = verify_rule_text rule
rule_text (Held rule) = held_rule_text rule
rule_text (Journal rule) = journal_rule_text rule
rule_text (Lifting rule) = lift_rule_text rule

-- the status of a command that refuses a file by the rule
abbrev pub rule_status : Rule → ℕ
rule_status (Pex rule) = 6
rule_status (Listing rule) = 8
rule_status (Lexical rule) = 5
rule_status (Grammar rule) = 5
rule_status (Link rule) = 5
rule_status (Typing rule) = 5
rule_status (Scene rule) = 7
rule_status (Verification rule) = 9
rule_status (Held rule) = 11
rule_status (Journal rule) = 12
rule_status (Lifting rule) = 13

-- the member of an object, where there is one
abbrev pub member_text : Option (List ℕ) → List ℕ
member_text None = []
member_text (Some member) = codes "." ++ member

-- the instruction, where it is one
abbrev pub at_text : Option ℕ → List ℕ
at_text None = []
at_text (Some number) = codes ":" ++ decimal number

-- what stands between the file's name and the rule
abbrev pub place_text : Place → List ℕ
place_text (Offset offset) = codes "@" ++ (decimal offset ++ codes ": ")
place_text (Line line) = codes ":" ++ (decimal line ++ codes ": ")
place_text Whole = codes ": "
place_text (Member object member at) = codes ": " ++ (object ++ (member_text member ++ (at_text at ++ codes " ")))

-- the file, the place, and the rule
abbrev pub refusal_line : List ℕ → Place → Rule → List ℕ
refusal_line file place rule = file ++ (place_text place ++ (rule_text rule ++ 10 ∷ []))
