use Rattle.std.proofs.Common.{not, length, rules, tests}
use Rattle.std.specs.List.{position_or_len}
use Rattle.std.proofs.lemmas.List.Sums.{prefix_len-le-length}
use Rattle.std.proofs.lemmas.Iterator.{YieldsList-from_slice}
use Rattle.std.proofs.lemmas.Iterator.Search.{position_from_yields_List}
use Rattle.codec.specs.Ticket.{stands_before}
use Rattle.group.proofs.Places.{placed-insert, where_found}
use Rattle.group.proofs.waiting_set.WaitingSet.place_for.Goals as goal

pub returns : goal.returns
returns c =
    let t = c.args.ticket.now in
    let ts = c.as_slice-all.result.now in
    let p = position_from_yields_List (stands_before t) _ _ _ c.position.ensures.ran (YieldsList-from_slice _ (cc)) (λ x b q k. search (rules, tests)) in
    let most = prefix_len-le-length (λ x. not (stands_before t x)) ts in
    let n = where_found (position_or_len (stands_before t) ts) (length ts) _ c.unwrap_or.result most p c.unwrap_or.ensures in
    let all = c.as_slice-all.ensures.value in
    rw (← all, n) (record { within = most; place = placed-insert t ts })
