use Rattle.std.proofs.Common.{◌≡◌, ◌++◌, [], ◌∷◌, length, map, Some, None, ◌≤◌, sym, ap, ◌∙◌, arith, rules}
use Rattle.std.proofs.lemmas.List.{length-append, map-append}
use Rattle.resp_core.specs.Tree.{list, members, trees_of}
use Rattle.resp_core.specs.Text.{texts}
use Rattle.resp_core.specs.Value.{tree_of}
use Rattle.resp_core.proofs.CallerLemmas.{trees_of-members}
use Rattle.proxy_record.specs.ReadBack.{found_in}
use Rattle.proxy_record.proofs.ReadLemmas.{taken, not_taken, simple_arm, fault_arm, whole_arm, bulk_arm, list_arm, known_kind, showable_members, few_members, remain_more, remain_none, remain_end}
use Rattle.proxy_record.proofs.DecimalLemmas.{no_minus}
use Rattle.proxy_record.proofs.read_back.+read.Goals as goal

pub read_value-returns-in-43 : goal.read_value-returns-in-43
read_value-returns-in-43 t c tree behind h is =
    let got = taken c.args.left tree c.args.rest.now behind c.take_line.new.rest c.in_ok-kind.field-0 c.in-Some.kind c.in-Some.shown c.in-Some.is (omega (arith, c.len.ensures.value, c.len.ensures.bound)) h is c.in_ok-kind.ensures in
    let arm = simple_arm tree c.in-Some.shown (sym c.in-43.is ∙ got.0) got.1 in
    (arm.0, got.2 ∙ ap (λ z. z ++ behind) arm.1)

pub read_value-returns-in-45 : goal.read_value-returns-in-45
read_value-returns-in-45 t c tree behind h is =
    let got = taken c.args.left tree c.args.rest.now behind c.take_line.new.rest c.in_ok-kind.field-0 c.in-Some.kind c.in-Some.shown c.in-Some.is (omega (arith, c.len.ensures.value, c.len.ensures.bound)) h is c.in_ok-kind.ensures in
    let arm = fault_arm tree c.in-Some.shown (sym c.in-45.is ∙ got.0) got.1 in
    (arm.0, got.2 ∙ ap (λ z. z ++ behind) arm.1)

pub read_value-returns-in-58 : goal.read_value-returns-in-58
read_value-returns-in-58 t c tree behind h is =
    let got = taken c.args.left tree c.args.rest.now behind c.take_line.new.rest c.in_ok-kind.field-0 c.in-Some.kind c.in-Some.shown c.in-Some.is (omega (arith, c.len.ensures.value, c.len.ensures.bound)) h is c.in_ok-kind.ensures in
    let arm = whole_arm c.args.left tree c.in-Some.shown (found_in c.whole_in.result) (λ n long e. c.whole_in.ensures n long (c.as_slice.ensures ∙ e)) h (sym c.in-58.is ∙ got.0) got.1 in
    (arm.0, got.2 ∙ ap (λ z. z ++ behind) arm.1)

pub read_value-returns-in_ok-read_bulk-in-36 : goal.read_value-returns-in_ok-read_bulk-in-36
read_value-returns-in_ok-read_bulk-in-36 t c tree behind h is =
    let got = taken c.args.left tree c.args.rest.now behind c.take_line.new.rest c.in_ok-kind.field-0 c.in-Some.kind c.in-Some.shown c.in-Some.is (omega (arith, c.len.ensures.value, c.len.ensures.bound)) h is c.in_ok-kind.ensures in
    bulk_arm tree c.in-Some.shown c.take_line.new.rest c.read_bulk.new.rest behind (found_in c.in_ok-read_bulk-in-36.field-0)
    (λ s b e. c.in_ok-read_bulk-in-36.ensures.bulk s b (c.as_slice-in-36.ensures ∙ e)) (λ e. c.in_ok-read_bulk-in-36.ensures.null (c.as_slice-in-36.ensures ∙ e))
    (sym c.in-36.is ∙ got.0) got.1 got.2

pub read_value-returns-in_ok-read_list-in-42 : goal.read_value-returns-in_ok-read_list-in-42
read_value-returns-in_ok-read_list-in-42 t c tree behind h is =
    let got = taken c.args.left tree c.args.rest.now behind c.take_line.new.rest c.in_ok-kind.field-0 c.in-Some.kind c.in-Some.shown c.in-Some.is (omega (arith, c.len.ensures.value, c.len.ensures.bound)) h is c.in_ok-kind.ensures in
    list_arm c.args.left tree c.in-Some.shown c.take_line.new.rest c.read_list.new.rest behind (found_in c.in_ok-read_list-in-42.field-0)
    (λ ts b hs e. c.in_ok-read_list-in-42.ensures.list ts b hs (c.as_slice-in-42.ensures ∙ e)) (λ some e. c.in_ok-read_list-in-42.ensures.null some (c.as_slice-in-42.ensures ∙ e))
    h (sym c.in-42.is ∙ got.0) got.1 got.2

pub read_value-returns-in_default-kind : goal.read_value-returns-in_default-kind
read_value-returns-in_default-kind t c tree behind h is =
    let got = taken c.args.left tree c.args.rest.now behind c.take_line.new.rest c.in_ok-kind.field-0 c.in-Some.kind c.in-Some.shown c.in-Some.is (omega (arith, c.len.ensures.value, c.len.ensures.bound)) h is c.in_ok-kind.ensures in
    absurd (known_kind tree c.in-Some.kind got.0 (λ e. omega arith) (λ e. omega arith) (λ e. omega arith) (λ e. omega arith) (λ e. omega arith))

pub read_value-returns-in_default : goal.read_value-returns-in_default
read_value-returns-in_default t c tree behind h is =
    absurd (not_taken c.args.left tree c.args.rest.now behind c.take_line.new.rest c.in_ok-kind.field-0 c.in_default.is (omega (arith, c.len.ensures.value, c.len.ensures.bound)) h is c.in_ok-kind.ensures)

pub read_list-returns-in_default-clause-list : goal.read_list-returns-in_default-clause-list
read_list-returns-in_default-clause-list t c ts behind h shown before =
    let few : length (members ts) ≤ c.len-most.result = omega (arith, few_members ts, ap length before, length-append (texts ts) behind, c.len-most.ensures.value) in
    let same : None ≡ Some (length (members ts)) = c.in_default.ensures.count (length (members ts)) few shown in cc

pub read_list-returns-then-is_null-clause-list : goal.read_list-returns-then-is_null-clause-list
read_list-returns-then-is_null-clause-list t c ts behind h shown before =
    let null : c.args.shown.now ≡ 45 ∷ 49 ∷ [] = search rules in
    absurd (no_minus (length (members ts)) (49 ∷ []) (omega (arith, few_members ts, ap length before, length-append (texts ts) behind, c.len-most.ensures.value, c.len-most.ensures.bound)) (sym shown ∙ null))

pub read_list-returns-in-Some-2-clause-list : goal.read_list-returns-in-Some-2-clause-list
read_list-returns-in-Some-2-clause-list t c ts behind h shown before =
    let few : length (members ts) ≤ c.len-most.result = omega (arith, few_members ts, ap length before, length-append (texts ts) behind, c.len-most.ensures.value) in
    let same : Some c.in-Some.count ≡ Some (length (members ts)) = c.in-Some.ensures.count (length (members ts)) few shown in
    let count : c.in-Some.count ≡ length (members ts) = cc in
    let got = c.in_ok-values.ensures ts behind (showable_members c.args.left ts h) count before in
    let both : Some c.in-Some-2.values ≡ Some (members ts) = sym c.in-Some-2.is ∙ got.0 in
    let values : c.in-Some-2.values ≡ members ts = cc in
    (ap (λ z. Some (list (trees_of z))) values ∙ ap (λ z. Some (list z)) (trees_of-members ts), got.1)

pub read_list-returns-in-None-clause-list : goal.read_list-returns-in-None-clause-list
read_list-returns-in-None-clause-list t c ts behind h shown before =
    let few : length (members ts) ≤ c.len-most.result = omega (arith, few_members ts, ap length before, length-append (texts ts) behind, c.len-most.ensures.value) in
    let same : Some c.in-Some.count ≡ Some (length (members ts)) = c.in-Some.ensures.count (length (members ts)) few shown in
    let count : c.in-Some.count ≡ length (members ts) = cc in
    let got = c.in_ok-values.ensures ts behind (showable_members c.args.left ts h) count before in
    let missing : None ≡ Some (members ts) = sym c.in-None.is ∙ got.0 in cc

pub read_members-loop-i-preserved : goal.read_members-loop-i-preserved
read_members-loop-i-preserved t c ts behind h count before =
    let more = remain_more c.args.left c.loop-i._i c.args.count (map tree_of c.loop-i.values.items) (tree_of c.in-Some.value) c.loop-i.rest c.read_value.new.rest behind ts (found_in c.in_ok-value.field-0) (c.loop-i.invariant ts behind h count before) (omega arith) c.in_ok-value.ensures (ap found_in c.in-Some.is) in
    let items : map tree_of c.push.new.self.items ≡ map tree_of c.loop-i.values.items ++ tree_of c.in-Some.value ∷ [] = ap (map tree_of) c.in_ok-push-in-Some.ensures.items ∙ simp map-append in
    rw items more

pub read_members-returns-in-None : goal.read_members-returns-in-None
read_members-returns-in-None t c ts behind h count before =
    let missing : found_in c.in_ok-value.field-0 ≡ None = ap found_in c.in-None.is in
    absurd (remain_none c.args.left c.loop-i._i c.args.count _ c.loop-i.rest c.read_value.new.rest behind ts (found_in c.in_ok-value.field-0) (c.loop-i.invariant ts behind h count before) (omega arith) c.in_ok-value.ensures missing)

pub read_members-returns : goal.read_members-returns
read_members-returns t c ts behind h count before =
    let ended = remain_end c.args.left c.loop-i._i c.args.count _ c.loop-i.rest behind ts (c.loop-i.invariant ts behind h count before) (omega arith) in
    (ap Some ended.0, ended.1)
