use Rattle.std.proofs.Common.{◌-◌, ◌≡◌, ◌<◌, length, min, ap, subst, ◌∙◌, take, drop, arith}
use Rattle.key_index_store.specs.Device.{Gives}
use Rattle.key_index_store.specs.Reads.{wanted}
use Rattle.key_index_store.proofs.GivenLemmas.{IfOk-both, first_read, second_read, read_key, read_whole}
use Rattle.key_index_store.proofs.store.find.read_record.Goals as goal

pub returns-then-wanted-len-clause-given : goal.returns-then-wanted-len-clause-given
returns-then-wanted-len-clause-given g c = λ log seen within.
    let limit = c.args.limit in
    let p = c.args.position in
    let v = c.in_ok-bytes.bytes.items in
    let block : c.min.result ≡ min (limit - p) c.args.block = c.min.ensures ∙ ap (λ r. min r c.args.block) c.saturating_sub-rest.ensures in
    let size : length v ≡ min (limit - p) c.args.block = c.in_ok-bytes.ensures.counted ∙ block in
    let wants = c.wanted.ensures.value ∙ ap (wanted c.args.is_whole p) c.as_slice.ensures.value in
    let given = subst (λ n. Gives (g.D.Device.damaged c.read_part.new.device) p (take n (drop p log)) v) block (c.in_ok-bytes.ensures.given log seen) in
    let reads = first_read log limit p within c.args.block c.requires c.args.is_whole v c.wanted.result size wants (g.D.Device.damaged c.read_part.new.device) given
    (omega (arith, c.if-wanted-len.true, c.len.ensures, c.min-wanted.ensures, c.saturating_sub-rest.ensures)) in
    reads.given

pub returns-clause-given : goal.returns-clause-given
returns-clause-given g c = λ log seen within.
    let limit = c.args.limit in
    let p = c.args.position in
    let v = c.in_ok-bytes.bytes.items in
    let block : c.min.result ≡ min (limit - p) c.args.block = c.min.ensures ∙ ap (λ r. min r c.args.block) c.saturating_sub-rest.ensures in
    let size : length v ≡ min (limit - p) c.args.block = c.in_ok-bytes.ensures.counted ∙ block in
    let wants = c.wanted.ensures.value ∙ ap (wanted c.args.is_whole p) c.as_slice.ensures.value in
    let before = g.D.Device.damaged c.read_part.new.device in
    let damaged = g.D.Device.damaged c.read_part-2.new.device in
    let given = subst (λ n. Gives before p (take n (drop p log)) v) block (c.in_ok-bytes.ensures.given log (c.read_part-2.ensures.read.stays log seen)) in
    let count : c.min-wanted.result ≡ min c.wanted.result (limit - p) = c.min-wanted.ensures ∙ ap (min c.wanted.result) c.saturating_sub-rest.ensures in
    let less : length v < min c.wanted.result (limit - p) = omega (arith, c.if-wanted-len.false, c.len.ensures, count) in
    IfOk-both c.read_part-2.result (λ u more long.
    let second = subst (λ n. Gives damaged p (take n (drop p log)) u.items) count more in
    let reads = second_read log limit p within c.args.block c.requires c.args.is_whole v c.wanted.result size wants before damaged c.read_part-2.ensures.read.damage given less u.items (long ∙ count) second in
    reads.given) (c.read_part-2.ensures.given log seen) c.read_part-2.ensures.counted

pub returns-then-wanted-len-clause-key : goal.returns-then-wanted-len-clause-key
returns-then-wanted-len-clause-key g c = λ log seen within.
    let limit = c.args.limit in
    let p = c.args.position in
    let v = c.in_ok-bytes.bytes.items in
    let block : c.min.result ≡ min (limit - p) c.args.block = c.min.ensures ∙ ap (λ r. min r c.args.block) c.saturating_sub-rest.ensures in
    let size : length v ≡ min (limit - p) c.args.block = c.in_ok-bytes.ensures.counted ∙ block in
    let wants = c.wanted.ensures.value ∙ ap (wanted c.args.is_whole p) c.as_slice.ensures.value in
    let given = subst (λ n. Gives (g.D.Device.damaged c.read_part.new.device) p (take n (drop p log)) v) block (c.in_ok-bytes.ensures.given log seen) in
    let reads = first_read log limit p within c.args.block c.requires c.args.is_whole v c.wanted.result size wants (g.D.Device.damaged c.read_part.new.device) given
    (omega (arith, c.if-wanted-len.true, c.len.ensures, c.min-wanted.ensures, c.saturating_sub-rest.ensures)) in
    read_key (g.D.Device.damaged c.read_part.new.device) c.args.is_whole p (drop p (take limit log)) v reads

pub returns-clause-key : goal.returns-clause-key
returns-clause-key g c = λ log seen within.
    let limit = c.args.limit in
    let p = c.args.position in
    let v = c.in_ok-bytes.bytes.items in
    let block : c.min.result ≡ min (limit - p) c.args.block = c.min.ensures ∙ ap (λ r. min r c.args.block) c.saturating_sub-rest.ensures in
    let size : length v ≡ min (limit - p) c.args.block = c.in_ok-bytes.ensures.counted ∙ block in
    let wants = c.wanted.ensures.value ∙ ap (wanted c.args.is_whole p) c.as_slice.ensures.value in
    let before = g.D.Device.damaged c.read_part.new.device in
    let damaged = g.D.Device.damaged c.read_part-2.new.device in
    let given = subst (λ n. Gives before p (take n (drop p log)) v) block (c.in_ok-bytes.ensures.given log (c.read_part-2.ensures.read.stays log seen)) in
    let count : c.min-wanted.result ≡ min c.wanted.result (limit - p) = c.min-wanted.ensures ∙ ap (min c.wanted.result) c.saturating_sub-rest.ensures in
    let less : length v < min c.wanted.result (limit - p) = omega (arith, c.if-wanted-len.false, c.len.ensures, count) in
    IfOk-both c.read_part-2.result (λ u more long.
    let second = subst (λ n. Gives damaged p (take n (drop p log)) u.items) count more in
    let reads = second_read log limit p within c.args.block c.requires c.args.is_whole v c.wanted.result size wants before damaged c.read_part-2.ensures.read.damage given less u.items (long ∙ count) second in
    read_key damaged c.args.is_whole p (drop p (take limit log)) u.items reads) (c.read_part-2.ensures.given log seen) c.read_part-2.ensures.counted

pub returns-then-wanted-len-clause-whole : goal.returns-then-wanted-len-clause-whole
returns-then-wanted-len-clause-whole g c = λ is_whole log seen within.
    let limit = c.args.limit in
    let p = c.args.position in
    let v = c.in_ok-bytes.bytes.items in
    let block : c.min.result ≡ min (limit - p) c.args.block = c.min.ensures ∙ ap (λ r. min r c.args.block) c.saturating_sub-rest.ensures in
    let size : length v ≡ min (limit - p) c.args.block = c.in_ok-bytes.ensures.counted ∙ block in
    let wants = c.wanted.ensures.value ∙ ap (wanted c.args.is_whole p) c.as_slice.ensures.value in
    let given = subst (λ n. Gives (g.D.Device.damaged c.read_part.new.device) p (take n (drop p log)) v) block (c.in_ok-bytes.ensures.given log seen) in
    let reads = first_read log limit p within c.args.block c.requires c.args.is_whole v c.wanted.result size wants (g.D.Device.damaged c.read_part.new.device) given
    (omega (arith, c.if-wanted-len.true, c.len.ensures, c.min-wanted.ensures, c.saturating_sub-rest.ensures)) in
    read_whole (g.D.Device.damaged c.read_part.new.device) c.args.is_whole p (drop p (take limit log)) v reads is_whole

pub returns-clause-whole : goal.returns-clause-whole
returns-clause-whole g c = λ is_whole log seen within.
    let limit = c.args.limit in
    let p = c.args.position in
    let v = c.in_ok-bytes.bytes.items in
    let block : c.min.result ≡ min (limit - p) c.args.block = c.min.ensures ∙ ap (λ r. min r c.args.block) c.saturating_sub-rest.ensures in
    let size : length v ≡ min (limit - p) c.args.block = c.in_ok-bytes.ensures.counted ∙ block in
    let wants = c.wanted.ensures.value ∙ ap (wanted c.args.is_whole p) c.as_slice.ensures.value in
    let before = g.D.Device.damaged c.read_part.new.device in
    let damaged = g.D.Device.damaged c.read_part-2.new.device in
    let given = subst (λ n. Gives before p (take n (drop p log)) v) block (c.in_ok-bytes.ensures.given log (c.read_part-2.ensures.read.stays log seen)) in
    let count : c.min-wanted.result ≡ min c.wanted.result (limit - p) = c.min-wanted.ensures ∙ ap (min c.wanted.result) c.saturating_sub-rest.ensures in
    let less : length v < min c.wanted.result (limit - p) = omega (arith, c.if-wanted-len.false, c.len.ensures, count) in
    IfOk-both c.read_part-2.result (λ u more long.
    let second = subst (λ n. Gives damaged p (take n (drop p log)) u.items) count more in
    let reads = second_read log limit p within c.args.block c.requires c.args.is_whole v c.wanted.result size wants before damaged c.read_part-2.ensures.read.damage given less u.items (long ∙ count) second in
    read_whole damaged c.args.is_whole p (drop p (take limit log)) u.items reads is_whole) (c.read_part-2.ensures.given log seen) c.read_part-2.ensures.counted
