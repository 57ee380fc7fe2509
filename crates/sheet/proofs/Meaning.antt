-- What the answer means for the bytes, and that the tables hold it.
use Rattle.std.proofs.Common.{◌≡◌, ℕ, zero, suc, ◌+◌, ◌-◌, ◌≤◌, List, [], ◌∷◌, ◌++◌, map, length, get_or, take, drop, replicate, Ok, Err, Result, sym, refl, ap, ◌∙◌, subst, arith, lit<, take-append-drop}
use Rattle.std.proofs.lemmas.Bool.Decides.{nat_tests}
use Rattle.std.proofs.lemmas.List.{drop_more, drop_all, take_all, length-map, take_at}
use Rattle.fault.specs.declared.at.At.{At}
use Rattle.fault.specs.declared.text.TextFault.{TextFault}
use Rattle.sheet.specs.declared.draft.Drafts.{Drafts}
use Rattle.sheet.specs.declared.tables.Tables.{Tables}
use Rattle.sheet.specs.Text.{Row, Table, Sheet, forms, Wide, Fitting, Writes}
use Rattle.sheet.specs.Scan.{formed}
use Rattle.sheet.specs.Rows.{Listing, sheet_of, listing_of, operation_of, instance_of, type_of, part_of, operation_values, instance_values, type_values, part_values}
use Rattle.sheet.specs.Faults.{Which, operations, instances, types, parts, count}
use Rattle.fault.specs.Search.{Verdict, and_then}
use Rattle.sheet.specs.Answer.{sized, turned, judged, listed, answer, Stored, stored, Contents, contents, holding, held, shown, told, listing, Answered, Refused, OneText}
use Rattle.sheet.specs.Walk.{Gathered, Drafted, counted, drafted}
use Rattle.sheet.proofs.Text.{Good, one}
use Rattle.sheet.proofs.Text as text
use Rattle.sheet.proofs.Sizes.{SizesTold, sizes}
use Rattle.sheet.proofs.Numbering.{TurnsTold, turns}

abbrev spread : ℕ → ℕ → List ℕ → List ℕ
spread i zero xs = []
spread i (suc k) xs = get_or xs i 0 ∷ spread (i + 1) k xs

spread_is : (k i : ℕ) (xs : List ℕ) → length xs ≡ i + k → drop i xs ≡ spread i k xs
spread_is zero i xs h = drop_all i xs (omega arith)
spread_is (suc k) i xs h = drop_more xs i 0 (omega arith) ∙ ap (λ l. get_or xs i 0 ∷ l) (spread_is k (i + 1) xs (omega arith))

-- rows of w values, made and written again
again : {R : Type 0} (made : Row → R) (values : R → Row) (w : ℕ) → ((r : Row) → values (made r) ≡ spread 0 w r) → (t : Table) → Wide w t → map values (map made t) ≡ t
again made values w e [] h = refl
again made values w e (r ∷ t) h =
    ap (λ x. x ∷ map values (map made t)) (e r ∙ sym (spread_is w 0 r (omega (arith, h.0)))) ∙ ap (λ x. r ∷ x) (again made values w e t h.2)

pub sheet_again : (s : Sheet) → Fitting forms s → sheet_of (listing_of s) ≡ s
sheet_again (a ∷ b ∷ c ∷ d ∷ []) h =
    ap (λ x. x ∷ map instance_values (map instance_of b) ∷ map type_values (map type_of c) ∷ map part_values (map part_of d) ∷ []) (again operation_of operation_values 4 (λ r. refl) a h.0)
    ∙ ap (λ x. a ∷ x ∷ map type_values (map type_of c) ∷ map part_values (map part_of d) ∷ []) (again instance_of instance_values 2 (λ r. refl) b h.1.0)
    ∙ ap (λ x. a ∷ b ∷ x ∷ map part_values (map part_of d) ∷ []) (again type_of type_values 6 (λ r. refl) c h.1.1.0)
    ∙ ap (λ x. a ∷ b ∷ c ∷ x ∷ []) (again part_of part_values 6 (λ r. refl) d h.1.1.1.0)
sheet_again [] h = absurd h
sheet_again (a ∷ []) h = absurd h.1
sheet_again (a ∷ b ∷ []) h = absurd h.1.1
sheet_again (a ∷ b ∷ c ∷ []) h = absurd h.1.1.1
sheet_again (a ∷ b ∷ c ∷ d ∷ e ∷ s) h = absurd h.1.1.1.1

back : {R : Type 0} (made : Row → R) (values : R → Row) → ((x : R) → made (values x) ≡ x) → (xs : List R) → map made (map values xs) ≡ xs
back made values e [] = refl
back made values e (x ∷ xs) = ap (λ y. y ∷ map made (map values xs)) (e x) ∙ ap (λ ys. x ∷ ys) (back made values e xs)

listing_again : (l : Listing) → listing_of (sheet_of l) ≡ l
listing_again l =
    ap (λ x. record { operations = x; instances = map instance_of (map instance_values l.instances); types = map type_of (map type_values l.types); parts = map part_of (map part_values l.parts) }) (back operation_of operation_values (λ x. refl) l.operations)
    ∙ ap (λ x. record { operations = l.operations; instances = x; types = map type_of (map type_values l.types); parts = map part_of (map part_values l.parts) }) (back instance_of instance_values (λ x. refl) l.instances)
    ∙ ap (λ x. record { operations = l.operations; instances = l.instances; types = x; parts = map part_of (map part_values l.parts) }) (back type_of type_values (λ x. refl) l.types)
    ∙ ap (λ x. record { operations = l.operations; instances = l.instances; types = l.types; parts = x }) (back part_of part_values (λ x. refl) l.parts)

all_good : Good forms
all_good = (lit< tt, lit< tt, (lit< tt, lit< tt, (lit< tt, lit< tt, (lit< tt, lit< tt, tt))))

pub one_text : (bs : List ℕ) → OneText bs
one_text bs l m v w = sym (listing_again l) ∙ ap listing_of (one forms all_good bs (sheet_of l) (sheet_of m) v w) ∙ listing_again m

-- a listing by what was found of its sizes and its numbers
judged_by : (bs : List ℕ) (l : Listing) → Writes forms bs (sheet_of l) → (v u : Verdict TextFault) → SizesTold (count l) v → TurnsTold l u → Answered bs (and_then v (and_then u (Ok l)))
judged_by bs l w (Err e) u h k = subst (Refused bs e.line) (sym h.0) (l, w, h.1)
judged_by bs l w (Ok x) (Err e) h k = subst (Refused bs e.line) (sym k.0) (l, w, h, k.1)
judged_by bs l w (Ok x) (Ok y) h k = (w, h, k)

answered_by : (bs : List ℕ) (x : Result Sheet (At TextFault)) → text.Told forms all_good bs x → Answered bs (listed x)
answered_by bs (Ok s) w =
    let l = listing_of s in
    judged_by bs l (subst (Writes forms bs) (sym (sheet_again s w.fits)) w) (sized (count l)) (turned l) (sizes (count l)) (turns l)
answered_by bs (Err e) h = subst (λ (x : At TextFault). Refused bs x.line x.fault) (sym h.2) (h.0, h.1, refl)

pub answered : (bs : List ℕ) → Answered bs (answer bs)
answered bs = answered_by bs (formed forms bs) (text.told forms all_good bs)

-- a table gathered within its room
gathered_whole : {R : Type 0} (made : Row → R) (z : R) (room : ℕ) (into : List R) (t : Table) (n : ℕ) → Gathered made room z into t n → n ≤ room → ◌≡◌ {A = Stored R} (record { rows = into; count = n }) (stored room z (map made t))
gathered_whole made z room into t n g h =
    let size : length (map made t) ≡ n = length-map t made ∙ g.count in
    let rows : into ≡ map made t ++ replicate (room - n) z =
    sym (take-append-drop n into)
    ∙ ap (λ l. l ++ drop n into) (g.first ∙ ap (map made) (take_all room t (omega (arith, g.count))))
    ∙ ap (λ l. map made t ++ l) g.rest in
    ap (λ l. record { rows = l; count = n }) (rows ∙ ap (λ k. map made t ++ replicate (room - k) z) (sym size)) ∙ ap (λ k. record { rows = map made t ++ replicate (room - length (map made t)) z; count = k }) (sym size)

abbrev four : ℕ → ℕ → ℕ → ℕ → Which → ℕ
four a b c d operations = a
four a b c d instances = b
four a b c d types = c
four a b c d parts = d

sized_same : (n m : Which → ℕ) → n operations ≡ m operations → n instances ≡ m instances → n types ≡ m types → n parts ≡ m parts → sized n ≡ sized m
sized_same n m p q r s =
    ap (λ x. sized (four x (n instances) (n types) (n parts))) p
    ∙ ap (λ x. sized (four (m operations) x (n types) (n parts))) q
    ∙ ap (λ x. sized (four (m operations) (m instances) x (n parts))) r
    ∙ ap (λ x. sized (four (m operations) (m instances) (m types) x)) s

-- within the rooms
record Roomy (n : Which → ℕ) : Type 0 where
  operations : n operations ≤ 32
  instances : n instances ≤ 16
  types : n types ≤ 252
  parts : n parts ≤ 1024

roomy : (n : Which → ℕ) → sized n ≡ Ok tt → Roomy n
roomy n h = record { operations = grind (arith, nat_tests); instances = grind (arith, nat_tests); types = grind (arith, nat_tests); parts = grind (arith, nat_tests) }

-- the rows of what tables hold
abbrev listed_in : Contents → Listing
listed_in x = record { operations = front x.operations; instances = front x.instances; types = front x.types; parts = front x.parts }
  where
    front : {R : Type 0} → Stored R → List R
    front s = take s.count s.rows

fronts : (l : Listing) → listed_in (holding l) ≡ l
fronts l =
    ap (λ x. record { operations = x; instances = (listed_in (holding l)).instances; types = (listed_in (holding l)).types; parts = (listed_in (holding l)).parts }) (take_at l.operations _ _ refl)
    ∙ ap (λ x. record { operations = l.operations; instances = x; types = (listed_in (holding l)).types; parts = (listed_in (holding l)).parts }) (take_at l.instances _ _ refl)
    ∙ ap (λ x. record { operations = l.operations; instances = l.instances; types = x; parts = (listed_in (holding l)).parts }) (take_at l.types _ _ refl)
    ∙ ap (λ x. record { operations = l.operations; instances = l.instances; types = l.types; parts = x }) (take_at l.parts _ _ refl)

pub listing_held : (t : Tables) (l : Listing) → contents t ≡ holding l → listing t ≡ l
listing_held t l e = ap listed_in e ∙ fronts l

-- what `read` promises
pub record Promised (bs : List ℕ) (r : Result Tables (At TextFault)) : Type 0 where
  pub value : shown r ≡ held (answer bs)
  pub rows : told r ≡ answer bs
  pub means : Answered bs (told r)
  pub one : OneText bs

pub refused : (bs : List ℕ) (e : At TextFault) → answer bs ≡ Err e → (r : Result Tables (At TextFault)) → r ≡ Err e → Promised bs r
refused bs e h r q =
    let rows : told r ≡ answer bs = ap told q ∙ sym h in
    record { value = ap shown q ∙ ap held (sym h); rows = rows; means = subst (Answered bs) (sym rows) (answered bs); one = one_text bs }

pub admitted : (bs : List ℕ) (t : Tables) (l : Listing) → answer bs ≡ Ok l → contents t ≡ holding l → Promised bs (Ok t)
admitted bs t l h e =
    let rows : told (Ok t) ≡ answer bs = ap (λ x. Ok x) (listing_held t l e) ∙ sym h in
    record { value = ap (λ x. Ok x) e ∙ ap held (sym h); rows = rows; means = subst (Answered bs) (sym rows) (answered bs); one = one_text bs }

-- A draft of tables in form.
module _ (bs : List ℕ) (d : Drafts) (a b c e : Table) (h : Drafted d a b c e) (f : formed forms bs ≡ Ok (a ∷ b ∷ c ∷ e ∷ [])) where
  abbrev L : Listing
  L = listing_of (a ∷ b ∷ c ∷ e ∷ [])

  whole : answer bs ≡ judged L
  whole = ap listed f

  size : {R : Type 0} (made : Row → R) (t : Table) (n : ℕ) → length t ≡ n → length (map made t) ≡ n
  size made t n q = length-map t made ∙ q

  counts : sized (count L) ≡ sized (counted d)
  counts =
      sized_same (count L) (counted d) (size operation_of a _ h.operations.count) (size instance_of b _ h.instances.count) (size type_of c _ h.types.count) (size part_of e _ h.parts.count)

  pub too_large : (x : At TextFault) → sized (counted d) ≡ Err x → answer bs ≡ Err x
  too_large x q = whole ∙ ap (λ (v : Verdict TextFault). and_then v (and_then (turned L) (Ok L))) (counts ∙ q)

  module _ (q : sized (counted d) ≡ Ok tt) where
    pub passed : answer bs ≡ and_then (turned L) (Ok L)
    passed = whole ∙ ap (λ (v : Verdict TextFault). and_then v (and_then (turned L) (Ok L))) (counts ∙ q)

    pub holds : drafted d ≡ holding L
    holds =
        let r = roomy (counted d) q in
        ap (λ x. record { operations = x; instances = (drafted d).instances; types = (drafted d).types; parts = (drafted d).parts }) (gathered_whole operation_of (operation_of []) 32 _ a _ h.operations r.operations)
        ∙ ap (λ x. record { operations = (holding L).operations; instances = x; types = (drafted d).types; parts = (drafted d).parts }) (gathered_whole instance_of (instance_of []) 16 _ b _ h.instances r.instances)
        ∙ ap (λ x. record { operations = (holding L).operations; instances = (holding L).instances; types = x; parts = (drafted d).parts }) (gathered_whole type_of (type_of []) 252 _ c _ h.types r.types)
        ∙ ap (λ x. record { operations = (holding L).operations; instances = (holding L).instances; types = (holding L).types; parts = x }) (gathered_whole part_of (part_of []) 1024 _ e _ h.parts r.parts)

    module _ (t : Tables) (k : contents t ≡ drafted d) where
      same : listing t ≡ L
      same = listing_held t L (k ∙ holds)

      pub out_of_turn : (x : At TextFault) → Err x ≡ turned (listing t) → answer bs ≡ Err x
      out_of_turn x v = passed ∙ ap (λ (u : Verdict TextFault). and_then u (Ok L)) (ap turned (sym same) ∙ sym v)

      pub in_turn : Ok tt ≡ turned (listing t) → Promised bs (Ok t)
      in_turn v = admitted bs t L (passed ∙ ap (λ (u : Verdict TextFault). and_then u (Ok L)) (ap turned (sym same) ∙ sym v)) (k ∙ holds)
