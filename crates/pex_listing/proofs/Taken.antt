-- Fields and lines that are read one after another.
use Rattle.std.proofs.Common.{◌≡◌, ℕ, ◌+◌, Bool, true, List, [], ◌∷◌, ◌++◌, length, refl, sym, subst, ap, ◌∙◌, append_assoc, length-append, arith}
use Rattle.std.specs.List.{flat_map}
use Rattle.std.proofs.lemmas.List.{flat_map_more}
use Rattle.pex_listing.specs.declared.listing.Listing.{Listing}
use Rattle.pex_listing.specs.Lines.{field}
use Rattle.pex_listing.specs.Opened.{fields_left, behind, text_left, Cuts, Notes, Spends, Takes, Begun, Ends, TakesLines}

-- ---- fields

pub takes_nothing : (l : Listing) → Takes [] 0 l l
takes_nothing l = record { good = λ good. good; taken = λ good. refl; shorter = omega arith; room = λ good. omega arith; rest = refl }

pub takes_more : {first second : List ℕ} {m n : ℕ} {old between new : Listing} → Takes first m old between → Takes second n between new → Takes (first ++ second) (m + n) old new
takes_more {first} {second} {m} {n} {old} {between} {new} a b = record {
  good = λ good. a.good (b.good good);
  taken = λ good. a.taken (b.good good) ∙ (ap (λ t. first ++ t) (b.taken good) ∙ sym (append_assoc first second (fields_left new)));
  shorter = omega (arith, a.shorter, b.shorter);
  room = λ good. omega (arith, a.room (b.good good), b.room good);
  rest = b.rest ∙ a.rest;
}

-- a word that is always spelled so
pub takes_cut : {text fields : List ℕ} {old new : Listing} → fields ≡ field text → Cuts text old new → Takes fields 0 old new
takes_cut {text} {fields} {old} {new} is cut = record {
  good = cut.good;
  taken = λ good. cut.taken good ∙ ap (λ t. t ++ fields_left new) (sym is);
  shorter = cut.shorter;
  room = λ good. omega (arith, cut.room);
  rest = cut.rest;
}

-- a field of which it was noted whether it is spelled so
pub takes_noted : {text : List ℕ} {holds : Bool} {old between new : Listing} (spelled : List ℕ) → Cuts text old between → Notes holds between new → (holds ≡ true → text ≡ spelled) → Takes (field spelled) 0 old new
takes_noted {text} {holds} {old} {between} {new} spelled cut note same = record {
  good = λ good. cut.good (note.good good);
  taken = λ good. cut.taken (note.good good) ∙ (ap (λ t. field t ++ fields_left between) (same (note.this good)) ∙ ap (λ t. field spelled ++ t) (sym note.fields));
  shorter = omega (arith, cut.shorter, ap length note.fields);
  room = λ good. omega (arith, cut.room, note.room);
  rest = note.rest ∙ cut.rest;
}

-- bytes that are taken behind fields
pub takes_spent : {text : List ℕ} {m n : ℕ} {old between new : Listing} → Takes text m old between → Spends n between new → Takes text (m + n) old new
takes_spent {text} {m} {n} {old} {between} {new} a spend = record {
  good = λ good. a.good (spend.good good);
  taken = λ good. a.taken (spend.good good) ∙ ap (λ t. text ++ t) (sym spend.fields);
  shorter = omega (arith, a.shorter, ap length spend.fields);
  room = λ good. omega (arith, a.room (spend.good good), spend.room good);
  rest = spend.rest ∙ a.rest;
}

-- bytes that are taken before them
pub spent_takes : {text : List ℕ} {m n : ℕ} {old between new : Listing} → Spends m old between → Takes text n between new → Takes text (m + n) old new
spent_takes {text} {m} {n} {old} {between} {new} spend a = record {
  good = λ good. spend.good (a.good good);
  taken = λ good. sym spend.fields ∙ a.taken good;
  shorter = omega (arith, a.shorter, ap length spend.fields);
  room = λ good. omega (arith, a.room good, spend.room (a.good good));
  rest = a.rest ∙ spend.rest;
}

pub takes_as : {text : List ℕ} {m n : ℕ} {old new : Listing} → m ≡ n → Takes text m old new → Takes text n old new
takes_as {text} {m} {n} {old} {new} same takes = subst (λ k. Takes text k old new) same takes

pub takes_is : {text other : List ℕ} {n : ℕ} {old new : Listing} → text ≡ other → Takes text n old new → Takes other n old new
takes_is {text} {other} {n} {old} {new} same takes = subst (λ t. Takes t n old new) same takes

-- one field more of a list of fields
pub takes_one_more : {X : Type 0} (f g : X → List ℕ) (xs : List X) (x : X) (old between new : Listing) → Takes (flat_map f xs) (length (flat_map g xs)) old between → Takes (f x) (length (g x)) between new
    → Takes (flat_map f (xs ++ x ∷ [])) (length (flat_map g (xs ++ x ∷ []))) old new
takes_one_more f g xs x old between new a b =
    let long = sym (length-append (flat_map g xs) (g x)) ∙ ap length (flat_map_more g [] xs x) in
    subst (λ text. Takes text (length (flat_map g (xs ++ x ∷ []))) old new) (flat_map_more f [] xs x) (takes_as long (takes_more a b))

-- ---- a line

pub begun_more : {text fields : List ℕ} {m n : ℕ} {first between new : Listing} → Begun text m first between → Takes fields n between new → Begun (text ++ fields) (m + n) first new
begun_more {text} {fields} {m} {n} {first} {between} {new} begun takes = record {
  read = λ good.
      begun.read (takes.good good)
      ∙ (ap (λ t. text ++ (t ++ 10 ∷ between.rest.bytes.now)) (takes.taken good)
      ∙ (ap (λ t. text ++ ((fields ++ fields_left new) ++ 10 ∷ t)) (sym takes.rest)
      ∙ (ap (λ t. text ++ t) (append_assoc fields (fields_left new) (10 ∷ new.rest.bytes.now)) ∙ sym (append_assoc text fields (behind new)))));
  room = λ good. omega (arith, begun.room (takes.good good), takes.room good);
}

pub begun_spent : {text : List ℕ} {m n : ℕ} {first between new : Listing} → Begun text m first between → Spends n between new → Begun text (m + n) first new
begun_spent {text} {m} {n} {first} {between} {new} begun spend = record {
  read = λ good. begun.read (spend.good good) ∙ (ap (λ t. text ++ (t ++ 10 ∷ between.rest.bytes.now)) (sym spend.fields) ∙ ap (λ t. text ++ (fields_left new ++ 10 ∷ t)) (sym spend.rest));
  room = λ good. omega (arith, begun.room (spend.good good), spend.room good);
}

pub begun_noted : {text : List ℕ} {m : ℕ} {holds : Bool} {first between new : Listing} → Begun text m first between → Notes holds between new → Begun text m first new
begun_noted {text} {m} {holds} {first} {between} {new} begun note = record {
  read = λ good. begun.read (note.good good) ∙ (ap (λ t. text ++ (t ++ 10 ∷ between.rest.bytes.now)) (sym note.fields) ∙ ap (λ t. text ++ (fields_left new ++ 10 ∷ t)) (sym note.rest));
  room = λ good. omega (arith, begun.room (note.good good), note.room);
}

pub ended : {text : List ℕ} {m : ℕ} {first last new : Listing} → Begun text m first last → Ends last new → TakesLines (text ++ 10 ∷ []) m first new
ended {text} {m} {first} {last} {new} begun ends = record {
  read =
      begun.read ends.good
      ∙ (ap (λ t. text ++ (t ++ 10 ∷ last.rest.bytes.now)) ends.last
      ∙ (ap (λ t. text ++ 10 ∷ t) (sym ends.opened) ∙ sym (append_assoc text (10 ∷ []) (text_left new))));
  room = omega (arith, begun.room ends.good, ends.room);
}

-- ---- lines

pub lines_nothing : (l : Listing) → TakesLines [] 0 l l
lines_nothing l = record { read = refl; room = omega arith }

pub lines_more : {first second : List ℕ} {m n : ℕ} {old between new : Listing} → TakesLines first m old between → TakesLines second n between new → TakesLines (first ++ second) (m + n) old new
lines_more {first} {second} {m} {n} {old} {between} {new} a b = record {
  read = a.read ∙ (ap (λ t. first ++ t) b.read ∙ sym (append_assoc first second (text_left new)));
  room = omega (arith, a.room, b.room);
}

pub lines_as : {lines other : List ℕ} {m n : ℕ} {old new : Listing} → lines ≡ other → m ≡ n → TakesLines lines m old new → TakesLines other n old new
lines_as {lines} {other} {m} {n} {old} {new} same as_many takes = record { read = takes.read ∙ ap (λ t. t ++ text_left new) same; room = omega (arith, takes.room) }

-- the same lines, and as many bytes
pub lines_of : {lines : List ℕ} {m n : ℕ} {old new : Listing} → m ≡ n → TakesLines lines m old new → TakesLines lines n old new
lines_of {lines} {m} {n} {old} {new} as_many takes = record { read = takes.read; room = omega (arith, takes.room) }
