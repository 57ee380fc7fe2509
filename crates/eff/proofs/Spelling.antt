-- Terms are had again from their parts, and labels from their claims.
use Rattle.std.proofs.Common.{◌≡◌, ℕ, Bool, true, false, eqb, List, [], ◌∷◌, ◌++◌, map, length, get_or, drop, Some, None, Option, sym, refl, ap, ◌∙◌, ap₂, append_assoc, append-nil}
use mathlib.Core.List.{is_set}
use mathlib.Core.Logic.{∥∥₁_elim}
use native.Mathlib.Nat.{ℕ_set}
use lib.Seq.{drop-append_seam}
use Rattle.eff.specs.Sorts.{Sort, expr, list, comp}
use Rattle.eff.specs.Kinds.{number, kinded}
use Rattle.eff.specs.Syntax.{Term, var, truth, num, succ, unit, inst, fn, handler, case, nil, if, match, absurd, apply, val, call, bind, rec, handle, digit, part, flatten}
use Rattle.eff.specs.Tabled.{any, PartsAreOfOneTerm}
use Rattle.eff.specs.Types.{Dirty}
use Rattle.eff.specs.Labels.{Labelled, erase, columns}
use Rattle.eff.specs.Labels as l
use Rattle.eff.specs.Spelling.{expr_at, list_at, comp_at, before, spelled, term_of, Whole, behind, attach, Spelled}
use Rattle.eff.specs.declared.part.Part.{Part}
use Rattle.eff.specs.declared.kind.Kind.{Kind}
use Rattle.eff.specs.declared.kind.Kind.TheVariants as k
use Rattle.eff.proofs.KindNumbers.{numbers}
use Rattle.eff.proofs.Parted.{claim_count}
use Rattle.eff.proofs.Paths.{ap₃}

truth_back : (b : Bool) → eqb (digit b) 1 ≡ b
truth_back true = refl
truth_back false = refl

-- two terms, and three, by what each leaves
two : {s s' : Sort} (c : Term s) (d : Term s') (ps : List Part) → spelled (flatten c ++ (flatten d ++ ps)) ≡ any c ∷ spelled (flatten d ++ ps)
    → spelled (flatten d ++ ps) ≡ any d ∷ spelled ps → spelled ((flatten c ++ flatten d) ++ ps) ≡ any c ∷ any d ∷ spelled ps
two c d ps p q = ap spelled (append_assoc (flatten c) (flatten d) ps) ∙ p ∙ ap (λ z. any c ∷ z) q

three : {s s' s'' : Sort} (b : Term s) (c : Term s') (d : Term s'') (ps : List Part)
    → spelled (flatten b ++ (flatten c ++ (flatten d ++ ps))) ≡ any b ∷ spelled (flatten c ++ (flatten d ++ ps))
    → spelled (flatten c ++ (flatten d ++ ps)) ≡ any c ∷ spelled (flatten d ++ ps) → spelled (flatten d ++ ps) ≡ any d ∷ spelled ps
    → spelled ((flatten b ++ (flatten c ++ flatten d)) ++ ps) ≡ any b ∷ any c ∷ any d ∷ spelled ps
three b c d ps p q r =
    ap spelled (append_assoc (flatten b) (flatten c ++ flatten d) ps ∙ ap (λ z. flatten b ++ z) (append_assoc (flatten c) (flatten d) ps))
    ∙ p ∙ ap (λ z. any b ∷ z) (q ∙ ap (λ z. any c ∷ z) r)

pub spells : {s : Sort} (u : Term s) (ps : List Part) → spelled (flatten u ++ ps) ≡ any u ∷ spelled ps
spells (var n) ps = refl
spells (truth b) ps = ap (λ x. any (truth x) ∷ spelled ps) (truth_back b)
spells (num n) ps = refl
spells (succ e) ps = ap (before k.Successor 0 0) (spells e ps)
spells unit ps = refl
spells (inst i) ps = refl
spells (fn a c) ps = ap (before k.Function a 0) (spells c ps)
spells (handler a c cs) ps = ap (before k.Handler a 0) (two c cs ps (spells c _) (spells cs ps))
spells (case e op i c cs) ps = ap (before k.Case e op) (three i c cs ps (spells i _) (spells c _) (spells cs ps))
spells nil ps = refl
spells (if e c d) ps = ap (before k.If 0 0) (three e c d ps (spells e _) (spells c _) (spells d ps))
spells (match e c d) ps = ap (before k.Match 0 0) (three e c d ps (spells e _) (spells c _) (spells d ps))
spells (absurd e) ps = ap (before k.Absurd 0 0) (spells e ps)
spells (apply e f) ps = ap (before k.Apply 0 0) (two e f ps (spells e _) (spells f ps))
spells (val e) ps = ap (before k.Val 0 0) (spells e ps)
spells (call e op i w c) ps = ap (before k.Call e op) (three i w c ps (spells i _) (spells w _) (spells c ps))
spells (bind c d) ps = ap (before k.Let 0 0) (two c d ps (spells c _) (spells d ps))
spells (rec a c d) ps = ap (before k.LetRec a 0) (two c d ps (spells c _) (spells d ps))
spells (handle e c) ps = ap (before k.With 0 0) (two e c ps (spells e _) (spells c ps))

pub term_back : (c : Term comp) → term_of (flatten c) ≡ c
unfolding term_of
term_back c = ap (λ ps. comp_at (spelled ps) 0) (sym (append-nil (flatten c))) ∙ ap (λ ts. comp_at ts 0) (spells c [])

-- the claims behind a term, others following its own
over : {s : Sort} (b : Labelled s) (xs ds : List Dirty) → behind (erase b) ((columns b ++ xs) ++ ds) ≡ xs ++ ds
over b xs ds =
    ap (behind (erase b)) (append_assoc (columns b) xs ds)
    ∙ ap (λ n. drop n (columns b ++ (xs ++ ds))) (sym (claim_count b)) ∙ drop-append_seam (columns b) (xs ++ ds)

-- a child of two or three, by what it is attached to alone
first_of : {s : Sort} (b : Labelled s) (xs ds : List Dirty) → attach (erase b) (columns b ++ (xs ++ ds)) ≡ b
    → attach (erase b) ((columns b ++ xs) ++ ds) ≡ b
first_of b xs ds h = ap (attach (erase b)) (append_assoc (columns b) xs ds) ∙ h

last_of : {s s' : Sort} (b : Labelled s) (c : Labelled s') (ds : List Dirty) → attach (erase c) (columns c ++ ds) ≡ c
    → attach (erase c) (behind (erase b) ((columns b ++ columns c) ++ ds)) ≡ c
last_of b c ds h = ap (attach (erase c)) (over b (columns c) ds) ∙ h

middle_of : {s s' : Sort} (b : Labelled s) (c : Labelled s') (xs ds : List Dirty) → attach (erase c) (columns c ++ (xs ++ ds)) ≡ c
    → attach (erase c) (behind (erase b) ((columns b ++ (columns c ++ xs)) ++ ds)) ≡ c
middle_of b c xs ds h = ap (attach (erase c)) (over b (columns c ++ xs) ds ∙ append_assoc (columns c) xs ds) ∙ h

third_of : {s s' s'' : Sort} (b : Labelled s) (c : Labelled s') (d : Labelled s'') (ds : List Dirty) → attach (erase d) (columns d ++ ds) ≡ d
    → attach (erase d) (behind (erase c) (behind (erase b) ((columns b ++ (columns c ++ columns d)) ++ ds))) ≡ d
third_of b c d ds h =
    ap (attach (erase d)) (ap (behind (erase c)) (over b (columns c ++ columns d) ds) ∙ over c (columns d) ds) ∙ h

pub attached : {s : Sort} (u : Labelled s) (ds : List Dirty) → attach (erase u) (columns u ++ ds) ≡ u
attached (l.var A n) ds = refl
attached (l.truth A b) ds = refl
attached (l.num A n) ds = refl
attached (l.succ A e) ds = ap (l.succ A) (attached e ds)
attached (l.unit A) ds = refl
attached (l.inst A i) ds = refl
attached (l.fn A a c) ds = ap (l.fn A a) (attached c ds)
attached (l.handler A a c cs) ds = ap₂ (l.handler A a) (first_of c (columns cs) ds (attached c _)) (last_of c cs ds (attached cs ds))
attached (l.case e op i c cs) ds =
    ap₃ (l.case e op) (first_of i (columns c ++ columns cs) ds (attached i _)) (middle_of i c (columns cs) ds (attached c _)) (third_of i c cs ds (attached cs ds))
attached (l.nil C) ds = refl
attached (l.if C e c d) ds =
    ap₃ (l.if C) (first_of e (columns c ++ columns d) ds (attached e _)) (middle_of e c (columns d) ds (attached c _)) (third_of e c d ds (attached d ds))
attached (l.match C e c d) ds =
    ap₃ (l.match C) (first_of e (columns c ++ columns d) ds (attached e _)) (middle_of e c (columns d) ds (attached c _)) (third_of e c d ds (attached d ds))
attached (l.absurd C e) ds = ap (l.absurd C) (attached e ds)
attached (l.apply C e f) ds = ap₂ (l.apply C) (first_of e (columns f) ds (attached e _)) (last_of e f ds (attached f ds))
attached (l.val C e) ds = ap (l.val C) (attached e ds)
attached (l.call C e op i w c) ds =
    ap₃ (l.call C e op) (first_of i (columns w ++ columns c) ds (attached i _)) (middle_of i w (columns c) ds (attached w _)) (third_of i w c ds (attached c ds))
attached (l.bind C c d) ds = ap₂ (l.bind C) (first_of c (columns d) ds (attached c _)) (last_of c d ds (attached d ds))
attached (l.rec C a c d) ds = ap₂ (l.rec C a) (first_of c (columns d) ds (attached c _)) (last_of c d ds (attached d ds))
attached (l.handle C e c) ds = ap₂ (l.handle C) (first_of e (columns c) ds (attached e _)) (last_of e c ds (attached c ds))

pub spelling : Spelled
spelling = record { terms = λ s u ps. spells u ps; computations = term_back; labels = λ s u ds. attached u ds }

-- no term's parts begin another's of the same sort
pub one_term : PartsAreOfOneTerm
one_term s u v ps qs h = (same, rest)
  where
    heads : any u ∷ spelled ps ≡ any v ∷ spelled qs
    heads = sym (spells u ps) ∙ ap spelled h ∙ spells v qs

    same : u ≡ v
    same = by s u v heads
      where
        by : (s : Sort) (u v : Term s) → any u ∷ spelled ps ≡ any v ∷ spelled qs → u ≡ v
        by expr u v e = ap (λ ts. expr_at ts 0) e
        by list u v e = ap (λ ts. list_at ts 0) e
        by comp u v e = ap (λ ts. comp_at ts 0) e

    rest : ps ≡ qs
    rest = sym (drop-append_seam (flatten u) ps) ∙ ap (λ n. drop n (flatten u ++ ps)) (ap (λ w. length (flatten w)) same) ∙ ap (drop (length (flatten v))) h ∙ drop-append_seam (flatten v) qs

-- parts go by numbers one for one, so that they are a set
abbrev numbers_of : Part → List ℕ
numbers_of p = number p.kind ∷ p.a ∷ p.b ∷ []

abbrev kind_or_nil : Option Kind → Kind
kind_or_nil (Some k) = k
kind_or_nil None = k.Nil

abbrev part_again : List ℕ → Part
part_again ns = part (kind_or_nil (kinded (get_or ns 0 0))) (get_or ns 1 0) (get_or ns 2 0)

parts_again : (ps : List Part) → map part_again (map numbers_of ps) ≡ ps
parts_again [] = refl
parts_again (p ∷ ps) = ap₂ (λ o xs. part (kind_or_nil o) p.a p.b ∷ xs) (numbers.kind p.kind) (parts_again ps)

-- the parts of one computation are those of the one that they spell
pub whole_parts : (ps : List Part) → Whole ps → ps ≡ flatten (term_of ps)
whole_parts ps h =
    sym (parts_again ps)
    ∙ ap (map part_again) (∥∥₁_elim h (is_set (is_set ℕ_set) _ _) (λ e. ap (map numbers_of) (sym e))) ∙ parts_again (flatten (term_of ps))

pub parts_whole : (ps : List Part) (c : Term comp) → ps ≡ flatten c → Whole ps
parts_whole ps c e = ∣ ap (λ (d : Term comp). flatten d) (ap term_of e ∙ term_back c) ∙ sym e ∣₁
