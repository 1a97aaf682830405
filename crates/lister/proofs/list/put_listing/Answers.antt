-- `lister::list::put_listing` meets its contract: faults first, then the names, then the table and its listing. Assumes nothing.
use native.Mathlib.Omega.{arith}
use mathlib.Core.Path.{refl}
use Rattle.std.proofs.lemmas.Result.{err_from_is_err_and}
use Rattle.program.proofs.FaultNumbers.{accepted_sound}
use Rattle.lister.proofs.Replies.{words_there, predicates_counted, functions_counted, symbols_few, names_replied, names_known, rows_filled, listing_asked, words_left, names_left, rows_left, over_left, fits_left}
use Rattle.lister.proofs.list.put_listing.Goals as goal

pub returns-in_err-check : goal.returns-in_err-check
returns-in_err-check c = let a = c.args in
    let f = err_from_is_err_and c.from_residual.result c.from_residual.ensures.1 in
    rw (f.1, f.2) (words_left a.words.now a.names.now _ _ c.in_err-check.field-0.0 c.in_err-check.ensures)

pub bounds-words-0 : goal.bounds-words-0
bounds-words-0 c = let (p, e) = accepted_sound c.args.words.now _ c.in_ok-check.ensures refl in omega (arith, words_there _ p e)

pub bounds-words-1 : goal.bounds-words-1
bounds-words-1 c = let (p, e) = accepted_sound c.args.words.now _ c.in_ok-check.ensures refl in omega (arith, words_there _ p e)

pub check_names-requires : goal.check_names-requires
check_names-requires c = let (p, e) = accepted_sound c.args.words.now _ c.in_ok-check.ensures refl in
    omega (arith, symbols_few _ p e, predicates_counted _ p e, functions_counted _ p e, c.from.ensures, c.from-2.ensures)

pub returns-in_err-check_names : goal.returns-in_err-check_names
returns-in_err-check_names c = let words = c.args.words.now in
    let names = c.args.names.now in
    let (p, e) = accepted_sound words _ c.in_ok-check.ensures refl in
    let is = names_replied words p e names _ _ _ c.from.ensures c.from-2.ensures c.in_err-check_names.ensures in
    let f = err_from_is_err_and c.from_residual-in_err-check_names.result c.from_residual-in_err-check_names.ensures.1 in
    rw (f.1, f.2) (names_left words names _ _ c.in_err-check_names.field-0.0 p e is)

pub tabled-requires : goal.tabled-requires
tabled-requires c = (refl, accepted_sound c.args.words.now _ c.in_ok-check.ensures refl)

pub returns-in_err-rows : goal.returns-in_err-rows
returns-in_err-rows c = let words = c.args.words.now in
    let names = c.args.names.now in
    let (p, e) = accepted_sound words _ c.in_ok-check.ensures refl in
    let n = names_known words p e names _ _ c.from.ensures c.from-2.ensures c.in_ok-check_names.ensures in
    let f = err_from_is_err_and c.from_residual-in_err-rows.result c.from_residual-in_err-rows.ensures.1 in
    rw (f.1, f.2) (rows_left words names _ _ c.in_err-rows.field-0.0 p e n c.in_err-rows.ensures.promise)

pub listing-size-requires : goal.listing-size-requires
listing-size-requires c = listing_asked (rows_filled c.in_ok-check.ensures c.from.ensures c.from-2.ensures c.in_ok-check_names.ensures c.in_ok-rows.ensures.promise c.in_ok-rows.ensures.in_dir)

pub returns-then-out-size : goal.returns-then-out-size
returns-then-out-size c = let w = rows_filled c.in_ok-check.ensures c.from.ensures c.from-2.ensures c.in_ok-check_names.ensures c.in_ok-rows.ensures.promise c.in_ok-rows.ensures.in_dir in
    over_left w (c.listing-size.ensures (listing_asked w)) c.if-out-size.true

pub returns : goal.returns
returns c = let w = rows_filled c.in_ok-check.ensures c.from.ensures c.from-2.ensures c.in_ok-check_names.ensures c.in_ok-rows.ensures.promise c.in_ok-rows.ensures.in_dir in
    fits_left w (c.listing-size.ensures (listing_asked w)) (omega (arith, c.if-out-size.false))
