-- The plain counterpart of each form of expression and statement.
use Rattle.std.proofs.Common.{◌≡◌, ℕ, List, Option, sym, ap, ◌∙◌, map}
use Rattle.core_tree.specs.declared.core_type.CoreType.{CoreType}
use Rattle.core_tree.specs.declared.expression.FunctionPlace.{FunctionPlace}
use Rattle.core_tree.specs.declared.expression.Core.{Core}
use Rattle.core_tree.specs.declared.expression.Core.TheVariants as code
use Rattle.core_tree.specs.declared.expression.Core.TheFolds.{fold-roll-Core}
use Rattle.core_tree.specs.declared.operator.Arith.{Arith}
use Rattle.core_tree.specs.declared.operator.Order.{Order}
use Rattle.core_tree.specs.declared.value.Value.{Value}
use Rattle.std.specs.declared.alloc.Global.{Global}
use Rattle.std.specs.declared.boxed.Box.{Box}
use Rattle.std.specs.declared.vec.Vec.{Vec}
use Rattle.core_tree.specs.Tree.{Expression, expressions, expression_of, expression_layer}
use Rattle.core_tree.specs.Tree as tree

pub expression_of-Lit : (value : Value) → expression_of (code.Lit value) ≡ tree.Literal value
unfolding expression_of
expression_of-Lit value = ap expression_of (sym (code.rolls-Lit value)) ∙ fold-roll-Core Expression expression_layer _

pub expression_of-Local : (number : ℕ) → expression_of (code.Local number) ≡ tree.Local number
unfolding expression_of
expression_of-Local number = ap expression_of (sym (code.rolls-Local number)) ∙ fold-roll-Core Expression expression_layer _

pub expression_of-Field : (number : ℕ) → expression_of (code.Field number) ≡ tree.Field number
unfolding expression_of
expression_of-Field number = ap expression_of (sym (code.rolls-Field number)) ∙ fold-roll-Core Expression expression_layer _

pub expression_of-SelfValue : expression_of code.SelfValue ≡ tree.SelfValue
unfolding expression_of
expression_of-SelfValue = ap expression_of (sym code.rolls-SelfValue) ∙ fold-roll-Core Expression expression_layer _

pub expression_of-StateText : expression_of code.StateText ≡ tree.StateText
unfolding expression_of
expression_of-StateText = ap expression_of (sym code.rolls-StateText) ∙ fold-roll-Core Expression expression_layer _

pub expression_of-Arith : (operation : Arith) (left : Box Core Global) (right : Box Core Global) → expression_of (code.Arith operation left right) ≡ tree.Apply (tree.Calculate operation) (tree.two (expression_of left.value) (expression_of right.value))
unfolding expression_of
expression_of-Arith operation left right = ap expression_of (sym (code.rolls-Arith operation left right)) ∙ fold-roll-Core Expression expression_layer _

pub expression_of-Neg : (of : Box Core Global) → expression_of (code.Neg of) ≡ tree.Apply tree.Negate (tree.one (expression_of of.value))
unfolding expression_of
expression_of-Neg of = ap expression_of (sym (code.rolls-Neg of)) ∙ fold-roll-Core Expression expression_layer _

pub expression_of-Not : (of : Box Core Global) → expression_of (code.Not of) ≡ tree.Apply tree.Not (tree.one (expression_of of.value))
unfolding expression_of
expression_of-Not of = ap expression_of (sym (code.rolls-Not of)) ∙ fold-roll-Core Expression expression_layer _

pub expression_of-Join : (left : Box Core Global) (right : Box Core Global) → expression_of (code.Join left right) ≡ tree.Apply tree.Join (tree.two (expression_of left.value) (expression_of right.value))
unfolding expression_of
expression_of-Join left right = ap expression_of (sym (code.rolls-Join left right)) ∙ fold-roll-Core Expression expression_layer _

pub expression_of-Equal : (left : Box Core Global) (right : Box Core Global) → expression_of (code.Equal left right) ≡ tree.Apply tree.Equal (tree.two (expression_of left.value) (expression_of right.value))
unfolding expression_of
expression_of-Equal left right = ap expression_of (sym (code.rolls-Equal left right)) ∙ fold-roll-Core Expression expression_layer _

pub expression_of-Order : (order : Order) (left : Box Core Global) (right : Box Core Global) → expression_of (code.Order order left right) ≡ tree.Apply (tree.Compare order) (tree.two (expression_of left.value) (expression_of right.value))
unfolding expression_of
expression_of-Order order left right = ap expression_of (sym (code.rolls-Order order left right)) ∙ fold-roll-Core Expression expression_layer _

pub expression_of-And : (left : Box Core Global) (right : Box Core Global) → expression_of (code.And left right) ≡ tree.And (expression_of left.value) (expression_of right.value)
unfolding expression_of
expression_of-And left right = ap expression_of (sym (code.rolls-And left right)) ∙ fold-roll-Core Expression expression_layer _

pub expression_of-Or : (left : Box Core Global) (right : Box Core Global) → expression_of (code.Or left right) ≡ tree.Or (expression_of left.value) (expression_of right.value)
unfolding expression_of
expression_of-Or left right = ap expression_of (sym (code.rolls-Or left right)) ∙ fold-roll-Core Expression expression_layer _

pub expression_of-Cast : (to : CoreType) (of : Box Core Global) → expression_of (code.Cast to of) ≡ tree.Apply (tree.Cast to) (tree.one (expression_of of.value))
unfolding expression_of
expression_of-Cast to of = ap expression_of (sym (code.rolls-Cast to of)) ∙ fold-roll-Core Expression expression_layer _

pub expression_of-CallMethod : (of : Box Core Global) (name : List ℕ) (arguments : Vec Core Global) (places : Vec ℕ Global) (result : Option CoreType) → expression_of (code.CallMethod of name arguments places result) ≡ tree.Apply (tree.CallMethod name places.items result) (tree.MoreExpressions (expression_of of.value) (expressions (map expression_of arguments.items)))
unfolding expression_of
expression_of-CallMethod of name arguments places result = ap expression_of (sym (code.rolls-CallMethod of name arguments places result)) ∙ fold-roll-Core Expression expression_layer _

pub expression_of-CallParent : (name : List ℕ) (arguments : Vec Core Global) (places : Vec ℕ Global) (result : Option CoreType) → expression_of (code.CallParent name arguments places result) ≡ tree.Apply (tree.CallParent name places.items result) (expressions (map expression_of arguments.items))
unfolding expression_of
expression_of-CallParent name arguments places result = ap expression_of (sym (code.rolls-CallParent name arguments places result)) ∙ fold-roll-Core Expression expression_layer _

pub expression_of-CallGlobal : (at : FunctionPlace) (arguments : Vec Core Global) (places : Vec ℕ Global) (result : Option CoreType) → expression_of (code.CallGlobal at arguments places result) ≡ tree.Apply (tree.CallGlobal at places.items result) (expressions (map expression_of arguments.items))
unfolding expression_of
expression_of-CallGlobal at arguments places result = ap expression_of (sym (code.rolls-CallGlobal at arguments places result)) ∙ fold-roll-Core Expression expression_layer _

pub expression_of-CallNative : (at : FunctionPlace) (arguments : Vec Core Global) (places : Vec ℕ Global) (result : Option CoreType) → expression_of (code.CallNative at arguments places result) ≡ tree.Apply (tree.CallNative at places.items result) (expressions (map expression_of arguments.items))
unfolding expression_of
expression_of-CallNative at arguments places result = ap expression_of (sym (code.rolls-CallNative at arguments places result)) ∙ fold-roll-Core Expression expression_layer _

pub expression_of-PropGet : (of : Box Core Global) (name : List ℕ) (kind : CoreType) → expression_of (code.PropGet of name kind) ≡ tree.Apply (tree.GetProperty name kind) (tree.one (expression_of of.value))
unfolding expression_of
expression_of-PropGet of name kind = ap expression_of (sym (code.rolls-PropGet of name kind)) ∙ fold-roll-Core Expression expression_layer _

pub expression_of-NewArray : (kind : CoreType) (count : ℕ) → expression_of (code.NewArray kind count) ≡ tree.Apply (tree.NewArray kind count) tree.NoExpression
unfolding expression_of
expression_of-NewArray kind count = ap expression_of (sym (code.rolls-NewArray kind count)) ∙ fold-roll-Core Expression expression_layer _

pub expression_of-Length : (array : Box Core Global) → expression_of (code.Length array) ≡ tree.Apply tree.Length (tree.one (expression_of array.value))
unfolding expression_of
expression_of-Length array = ap expression_of (sym (code.rolls-Length array)) ∙ fold-roll-Core Expression expression_layer _

pub expression_of-Element : (array : Box Core Global) (index : Box Core Global) (kind : CoreType) → expression_of (code.Element array index kind) ≡ tree.Apply (tree.Element kind) (tree.two (expression_of array.value) (expression_of index.value))
unfolding expression_of
expression_of-Element array index kind = ap expression_of (sym (code.rolls-Element array index kind)) ∙ fold-roll-Core Expression expression_layer _

pub expression_of-Find : (array : Box Core Global) (value : Box Core Global) (start : Box Core Global) → expression_of (code.Find array value start) ≡ tree.Apply tree.Find (tree.three (expression_of array.value) (expression_of value.value) (expression_of start.value))
unfolding expression_of
expression_of-Find array value start = ap expression_of (sym (code.rolls-Find array value start)) ∙ fold-roll-Core Expression expression_layer _

pub expression_of-FindBack : (array : Box Core Global) (value : Box Core Global) (start : Box Core Global) → expression_of (code.FindBack array value start) ≡ tree.Apply tree.FindBack (tree.three (expression_of array.value) (expression_of value.value) (expression_of start.value))
unfolding expression_of
expression_of-FindBack array value start = ap expression_of (sym (code.rolls-FindBack array value start)) ∙ fold-roll-Core Expression expression_layer _

pub ruleset expression_views = (expression_of-Lit, expression_of-Local, expression_of-Field, expression_of-SelfValue, expression_of-StateText, expression_of-Arith, expression_of-Neg, expression_of-Not, expression_of-Join, expression_of-Equal, expression_of-Order, expression_of-And, expression_of-Or, expression_of-Cast, expression_of-CallMethod, expression_of-CallParent, expression_of-CallGlobal, expression_of-CallNative, expression_of-PropGet, expression_of-NewArray, expression_of-Length, expression_of-Element, expression_of-Find, expression_of-FindBack)
