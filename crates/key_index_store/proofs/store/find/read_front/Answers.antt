use Rattle.std.proofs.Common.{◌-◌, ◌<◌, length, min, ap, ◌∙◌, take, drop, arith}
use Rattle.std.proofs.lemmas.Result.{IfOk-weaker}
use Rattle.key_index_store.specs.Reads.{wanted}
use Rattle.key_index_store.proofs.ReadLemmas.{first_suffices, front_tells, more_suffices, read-in_front, step_tells, whole_tells}
use Rattle.key_index_store.proofs.store.find.read_front.Goals as goal

pub returns-then-wanted-len-clause-front : goal.returns-then-wanted-len-clause-front
returns-then-wanted-len-clause-front g c = λ log seen within.
    let limit = c.args.limit in
    let p = c.args.position in
    let v = c.in_ok-bytes.bytes.items in
    let is = c.in_ok-bytes.ensures.told log seen ∙ ap (λ n. take n (drop p log)) (c.min.ensures ∙ ap (λ r. min r c.args.block) c.saturating_sub-rest.ensures) in
    let wants = c.wanted.ensures.value ∙ ap (wanted c.args.is_whole p) c.as_slice.ensures.value in
    let enough = first_suffices log limit p within c.args.block c.requires c.args.is_whole v c.wanted.result is wants (omega (arith, c.if-wanted-len.true, c.len.ensures, c.min-wanted.ensures, c.saturating_sub-rest.ensures)) in
    let front = read-in_front log limit p within v (min (limit - p) c.args.block) (omega arith) is in
    front

pub returns-clause-front : goal.returns-clause-front
returns-clause-front g c = λ log seen within.
    let limit = c.args.limit in
    let p = c.args.position in
    let v = c.in_ok-bytes.bytes.items in
    let seen_first = c.read_bytes-2.ensures.read.stays log seen in
    let is = c.in_ok-bytes.ensures.told log seen_first ∙ ap (λ n. take n (drop p log)) (c.min.ensures ∙ ap (λ r. min r c.args.block) c.saturating_sub-rest.ensures) in
    let wants = c.wanted.ensures.value ∙ ap (wanted c.args.is_whole p) c.as_slice.ensures.value in
    let size = c.min-wanted.ensures ∙ ap (min c.wanted.result) c.saturating_sub-rest.ensures in
    let less : length v < min c.wanted.result (limit - p) = omega (arith, c.if-wanted-len.false, c.len.ensures, size) in
    IfOk-weaker c.read_bytes-2.result _ _ (λ u told.
    let read = told ∙ ap (λ n. take n (drop p log)) size in
    let enough = more_suffices log limit p within c.args.block c.requires c.args.is_whole v u.items c.wanted.result is wants less read in
    let front = read-in_front log limit p within u.items (min c.wanted.result (limit - p)) (omega arith) read in
    front) (c.read_bytes-2.ensures.told log seen)

pub returns-then-wanted-len-clause-key : goal.returns-then-wanted-len-clause-key
returns-then-wanted-len-clause-key g c = λ log seen within.
    let limit = c.args.limit in
    let p = c.args.position in
    let v = c.in_ok-bytes.bytes.items in
    let is = c.in_ok-bytes.ensures.told log seen ∙ ap (λ n. take n (drop p log)) (c.min.ensures ∙ ap (λ r. min r c.args.block) c.saturating_sub-rest.ensures) in
    let wants = c.wanted.ensures.value ∙ ap (wanted c.args.is_whole p) c.as_slice.ensures.value in
    let enough = first_suffices log limit p within c.args.block c.requires c.args.is_whole v c.wanted.result is wants (omega (arith, c.if-wanted-len.true, c.len.ensures, c.min-wanted.ensures, c.saturating_sub-rest.ensures)) in
    let front = read-in_front log limit p within v (min (limit - p) c.args.block) (omega arith) is in
    front_tells c.args.is_whole p _ v front enough

pub returns-clause-key : goal.returns-clause-key
returns-clause-key g c = λ log seen within.
    let limit = c.args.limit in
    let p = c.args.position in
    let v = c.in_ok-bytes.bytes.items in
    let seen_first = c.read_bytes-2.ensures.read.stays log seen in
    let is = c.in_ok-bytes.ensures.told log seen_first ∙ ap (λ n. take n (drop p log)) (c.min.ensures ∙ ap (λ r. min r c.args.block) c.saturating_sub-rest.ensures) in
    let wants = c.wanted.ensures.value ∙ ap (wanted c.args.is_whole p) c.as_slice.ensures.value in
    let size = c.min-wanted.ensures ∙ ap (min c.wanted.result) c.saturating_sub-rest.ensures in
    let less : length v < min c.wanted.result (limit - p) = omega (arith, c.if-wanted-len.false, c.len.ensures, size) in
    IfOk-weaker c.read_bytes-2.result _ _ (λ u told.
    let read = told ∙ ap (λ n. take n (drop p log)) size in
    let enough = more_suffices log limit p within c.args.block c.requires c.args.is_whole v u.items c.wanted.result is wants less read in
    let front = read-in_front log limit p within u.items (min c.wanted.result (limit - p)) (omega arith) read in
    front_tells c.args.is_whole p _ u.items front enough) (c.read_bytes-2.ensures.told log seen)

pub returns-then-wanted-len-clause-whole : goal.returns-then-wanted-len-clause-whole
returns-then-wanted-len-clause-whole g c = λ is_whole log seen within.
    let limit = c.args.limit in
    let p = c.args.position in
    let v = c.in_ok-bytes.bytes.items in
    let is = c.in_ok-bytes.ensures.told log seen ∙ ap (λ n. take n (drop p log)) (c.min.ensures ∙ ap (λ r. min r c.args.block) c.saturating_sub-rest.ensures) in
    let wants = c.wanted.ensures.value ∙ ap (wanted c.args.is_whole p) c.as_slice.ensures.value in
    let enough = first_suffices log limit p within c.args.block c.requires c.args.is_whole v c.wanted.result is wants (omega (arith, c.if-wanted-len.true, c.len.ensures, c.min-wanted.ensures, c.saturating_sub-rest.ensures)) in
    let front = read-in_front log limit p within v (min (limit - p) c.args.block) (omega arith) is in
    whole_tells c.args.is_whole p _ v front is_whole enough

pub returns-clause-whole : goal.returns-clause-whole
returns-clause-whole g c = λ is_whole log seen within.
    let limit = c.args.limit in
    let p = c.args.position in
    let v = c.in_ok-bytes.bytes.items in
    let seen_first = c.read_bytes-2.ensures.read.stays log seen in
    let is = c.in_ok-bytes.ensures.told log seen_first ∙ ap (λ n. take n (drop p log)) (c.min.ensures ∙ ap (λ r. min r c.args.block) c.saturating_sub-rest.ensures) in
    let wants = c.wanted.ensures.value ∙ ap (wanted c.args.is_whole p) c.as_slice.ensures.value in
    let size = c.min-wanted.ensures ∙ ap (min c.wanted.result) c.saturating_sub-rest.ensures in
    let less : length v < min c.wanted.result (limit - p) = omega (arith, c.if-wanted-len.false, c.len.ensures, size) in
    IfOk-weaker c.read_bytes-2.result _ _ (λ u told.
    let read = told ∙ ap (λ n. take n (drop p log)) size in
    let enough = more_suffices log limit p within c.args.block c.requires c.args.is_whole v u.items c.wanted.result is wants less read in
    let front = read-in_front log limit p within u.items (min c.wanted.result (limit - p)) (omega arith) read in
    whole_tells c.args.is_whole p _ u.items front is_whole enough) (c.read_bytes-2.ensures.told log seen)

pub returns-then-wanted-len-clause-step : goal.returns-then-wanted-len-clause-step
returns-then-wanted-len-clause-step g c = λ log seen within.
    let limit = c.args.limit in
    let p = c.args.position in
    let v = c.in_ok-bytes.bytes.items in
    let is = c.in_ok-bytes.ensures.told log seen ∙ ap (λ n. take n (drop p log)) (c.min.ensures ∙ ap (λ r. min r c.args.block) c.saturating_sub-rest.ensures) in
    let wants = c.wanted.ensures.value ∙ ap (wanted c.args.is_whole p) c.as_slice.ensures.value in
    let enough = first_suffices log limit p within c.args.block c.requires c.args.is_whole v c.wanted.result is wants (omega (arith, c.if-wanted-len.true, c.len.ensures, c.min-wanted.ensures, c.saturating_sub-rest.ensures)) in
    let front = read-in_front log limit p within v (min (limit - p) c.args.block) (omega arith) is in
    step_tells c.args.is_whole p _ v front enough

pub returns-clause-step : goal.returns-clause-step
returns-clause-step g c = λ log seen within.
    let limit = c.args.limit in
    let p = c.args.position in
    let v = c.in_ok-bytes.bytes.items in
    let seen_first = c.read_bytes-2.ensures.read.stays log seen in
    let is = c.in_ok-bytes.ensures.told log seen_first ∙ ap (λ n. take n (drop p log)) (c.min.ensures ∙ ap (λ r. min r c.args.block) c.saturating_sub-rest.ensures) in
    let wants = c.wanted.ensures.value ∙ ap (wanted c.args.is_whole p) c.as_slice.ensures.value in
    let size = c.min-wanted.ensures ∙ ap (min c.wanted.result) c.saturating_sub-rest.ensures in
    let less : length v < min c.wanted.result (limit - p) = omega (arith, c.if-wanted-len.false, c.len.ensures, size) in
    IfOk-weaker c.read_bytes-2.result _ _ (λ u told.
    let read = told ∙ ap (λ n. take n (drop p log)) size in
    let enough = more_suffices log limit p within c.args.block c.requires c.args.is_whole v u.items c.wanted.result is wants less read in
    let front = read-in_front log limit p within u.items (min c.wanted.result (limit - p)) (omega arith) read in
    step_tells c.args.is_whole p _ u.items front enough) (c.read_bytes-2.ensures.told log seen)
