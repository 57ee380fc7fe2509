-- What the verdict on the tables means.
use Rattle.std.proofs.Common.{◌≡◌, ℕ, ◌+◌, ◌≤◌, true, [], get_or, Ok, Err, Result, sym, refl, ap, ◌∙◌, subst, inl, inr, arith}
use Rattle.fault.specs.declared.at.At.{At}
use Rattle.fault.specs.declared.table.TableFault.{TableFault}
use Rattle.fault.specs.declared.table.TableFault.TheVariants.{Column, Part}
use Rattle.fault.specs.Search.{Verdict, and_then, search, NoLine}
use Rattle.fault.proofs.Searching.{Found, Told, same_told, searched, earlier}
use Rattle.sheet.specs.Rows.{Listing, operation_of, instance_of, type_of, part_of}
use Rattle.sheet.specs.Faults.{Which, operations, instances, types, parts, count, row_line}
use Rattle.table.specs.Ranges.{InRange, Within, AllInRange, RowFault, row, ColumnFault}
use Rattle.table.specs.Tests.{operation_ok, instance_ok, type_ok, part_ok}
use Rattle.table.specs.Answer.{ranged, judged, Refused, Judged}
use Rattle.table.proofs.Testing.{operation_range, range_operation, effect_declared, declared_effect, type_range, range_type, part_range, range_part}

module _ (l : Listing) where
  abbrev n : Which → ℕ
  n = count l

  abbrev Of : TableFault → Which → Verdict TableFault → Type 0
  Of f w = Told f (row_line n w 0) (n w) (InRange l w)

  operations_told : Of Column operations (search Column (λ n o. operation_ok o) (row_line n operations 0) 0 l.operations)
  operations_told =
      same_told Column (row_line n operations 0) (n operations) (λ r. operation_ok (get_or l.operations r (operation_of [])) ≡ true) (InRange l operations)
      (λ r _ h. operation_range _ h) (λ r _ h. range_operation _ h) _ (searched Column (λ n o. operation_ok o) (operation_of []) (row_line n operations 0) 0 l.operations)

  instances_told : Of Column instances (search Column (λ n i. instance_ok l i) (row_line n instances 0) 0 l.instances)
  instances_told =
      same_told Column (row_line n instances 0) (n instances) (λ r. instance_ok l (get_or l.instances r (instance_of [])) ≡ true) (InRange l instances)
      (λ r _ h. effect_declared l.operations _ h) (λ r _ h. declared_effect l.operations _ h.0 h.1) _ (searched Column (λ n i. instance_ok l i) (instance_of []) (row_line n instances 0) 0 l.instances)

  types_told : Of Column types (search Column (λ n t. type_ok l n t) (row_line n types 0) 4 l.types)
  types_told =
      same_told Column (row_line n types 0) (n types) (λ r. type_ok l (4 + r) (get_or l.types r (type_of [])) ≡ true) (InRange l types)
      (λ r _ h. type_range l _ _ h) (λ r _ h. range_type l _ _ h) _ (searched Column (λ n t. type_ok l n t) (type_of []) (row_line n types 0) 4 l.types)

  parts_told : Of Part parts (search Part (λ n p. part_ok l p) (row_line n parts 0) 0 l.parts)
  parts_told =
      same_told Part (row_line n parts 0) (n parts) (λ r. part_ok l (get_or l.parts r (part_of [])) ≡ true) (InRange l parts)
      (λ r _ h. part_range l _ h) (λ r _ h. range_part l _ h) _ (searched Part (λ n p. part_ok l p) (part_of []) (row_line n parts 0) 0 l.parts)

  line : (w : Which) (r : ℕ) → row_line n w 0 + r ≡ row_line n w r
  line w r = omega arith

  fault : (w : Which) (r m : ℕ) → Found (n w) (InRange l w) r → m ≡ row_line n w 0 + r → RowFault l w m
  fault w r m f e = row r f.within f.bad (e ∙ line w r)

  -- a later row of the same table
  same : (w : Which) (r m o : ℕ) → Found (n w) (InRange l w) r → m ≡ row_line n w 0 + r → RowFault l w o → m ≤ o
  same w r m o f e (row s k bad q) = let h : r ≤ s = earlier (InRange l w) r s f.before bad in omega (arith, e, q)

  none : (w : Which) → Within l w → NoLine (RowFault l w)
  none w h m (row r k bad e) = bad (h r k)

  first_operation : (r m : ℕ) → Found (n operations) (InRange l operations) r → m ≡ row_line n operations 0 + r → (o : ℕ) → ColumnFault l o → m ≤ o
  first_operation r m f e o (inl h) = same operations r m o f e h
  first_operation r m f e o (inr (inl (row s k bad q))) = omega (arith, e, q, f.within)
  first_operation r m f e o (inr (inr (row s k bad q))) = omega (arith, e, q, f.within)

  first_instance : Within l operations → (r m : ℕ) → Found (n instances) (InRange l instances) r → m ≡ row_line n instances 0 + r → (o : ℕ) → ColumnFault l o → m ≤ o
  first_instance a r m f e o (inl h) = absurd (none operations a o h)
  first_instance a r m f e o (inr (inl h)) = same instances r m o f e h
  first_instance a r m f e o (inr (inr (row s k bad q))) = omega (arith, e, q, f.within)

  first_type : Within l operations → Within l instances → (r m : ℕ) → Found (n types) (InRange l types) r → m ≡ row_line n types 0 + r → (o : ℕ) → ColumnFault l o → m ≤ o
  first_type a b r m f e o (inl h) = absurd (none operations a o h)
  first_type a b r m f e o (inr (inl h)) = absurd (none instances b o h)
  first_type a b r m f e o (inr (inr h)) = same types r m o f e h

  no_column : Within l operations → Within l instances → Within l types → NoLine (ColumnFault l)
  no_column a b c o (inl h) = none operations a o h
  no_column a b c o (inr (inl h)) = none instances b o h
  no_column a b c o (inr (inr h)) = none types c o h

  refuse : (e : At TableFault) (f : TableFault) → e.fault ≡ f → Refused l e.line f → Refused l e.line e.fault
  refuse e f q h = subst (Refused l e.line) (sym q) h

  all : (a b c d : Verdict TableFault) → Of Column operations a → Of Column instances b → Of Column types c → Of Part parts d → Judged l (and_then (and_then a (and_then b (and_then c d))) (Ok l))
  all (Err e) b c d s t u v = refuse e Column s.0 (inl (fault operations s.1.0 e.line s.1.1 s.1.2), first_operation s.1.0 e.line s.1.1 s.1.2)
  all (Ok x) (Err e) c d s t u v = refuse e Column t.0 (inr (inl (fault instances t.1.0 e.line t.1.1 t.1.2)), first_instance s t.1.0 e.line t.1.1 t.1.2)
  all (Ok x) (Ok y) (Err e) d s t u v = refuse e Column u.0 (inr (inr (fault types u.1.0 e.line u.1.1 u.1.2)), first_type s t u.1.0 e.line u.1.1 u.1.2)
  all (Ok x) (Ok y) (Ok z) (Err e) s t u v = refuse e Part v.0 (no_column s t u, (fault parts v.1.0 e.line v.1.1 v.1.2, λ o. same parts v.1.0 e.line o v.1.1 v.1.2))
  all (Ok x) (Ok y) (Ok z) (Ok w) s t u v = (refl, record { operations = s; instances = t; types = u; parts = v })

  pub judged_means : Judged l (judged l)
  judged_means = all _ _ _ _ operations_told instances_told types_told parts_told

  pub operations_in : Ok tt ≡ search Column (λ n o. operation_ok o) (row_line n operations 0) 0 l.operations → Within l operations
  operations_in h = subst (Of Column operations) (sym h) operations_told

  pub at_end : Ok tt ≡ ranged l → Ok l ≡ judged l
  at_end h = ap (λ (v : Verdict TableFault). and_then v (Ok l)) h

  pub in_range : Ok l ≡ judged l → AllInRange l
  in_range h = (subst (Judged l) (sym h) judged_means).1

  pub means : (r : Result Listing (At TableFault)) → r ≡ judged l → Judged l r
  means r h = subst (Judged l) (sym h) judged_means
