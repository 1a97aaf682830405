-- `tabled` meets its contract: the rounds end in the table of the program, or in more rows than the room. Assumes nothing.
use Prim.Native.Nat.{ℕ}
use native.Mathlib.Omega.{arith}
use mathlib.Core.Path.{refl, ap, ◌∙◌}
use lib.ListN.{length, replicate}
use Rattle.program.specs.Reply.{no_room, refused}
use Rattle.table.specs.Table.{MoreThan}
use Rattle.table.specs.Promise.{full}
use Rattle.analysis.proofs.Replies.{setting_of, room_fits, past_more, within_complete, table_listed}
use Rattle.analysis.proofs.analyse.tabled.Goals as goal

pub rounds-requires : goal.rounds-requires
rounds-requires c = let room = room_fits (length c.args.table.now) in
    record {
      p = c.requires.1.0;
      setting = setting_of c.requires.1.1 c.directory.ensures;
      no_buckets = refl;
      no_heads = refl;
      room_for_notes = record { some = omega arith; few = omega arith };
      scratch = record { all_answers = refl; none_found = refl };
      none_kept = refl;
      none_answered = refl;
      room_most = omega (arith, c.room_in-room.ensures, room.0);
      room_there = omega (arith, c.room_in-room.ensures, room.1);
    }

pub finish-requires : goal.finish-requires
finish-requires c = let setting = setting_of c.requires.1.1 c.directory.ensures in
    record { p = c.requires.1.0; setting = setting; complete = within_complete c.requires.1.0 _ _ _ ((rw c.in-Ok.is at c.rounds.ensures.finished) c.requires.1.0 setting) (rw c.in-Ok.is at c.rounds.ensures.within) }

pub returns-in-Ok : goal.returns-in-Ok
returns-in-Ok c = let directory = c.directory.ensures in
    let setting = setting_of c.requires.1.1 directory in
    let within = rw c.in-Ok.is at c.rounds.ensures.within in
    let complete = within_complete c.requires.1.0 _ _ _ ((rw c.in-Ok.is at c.rounds.ensures.finished) c.requires.1.0 setting) within in
    let in_table = c.finish.ensures (record { p = c.requires.1.0; setting = setting; complete = complete }) in record { promise = table_listed _ c.requires.1.0 c.requires.1.1 _ _ _ (omega (arith, c.room_in-room.ensures, within)) (rw c.rounds.auto.table at in_table); in_dir = directory }

pub returns-in-Err : goal.returns-in-Err
returns-in-Err c = let room_is = c.room_in-room.ensures in
    let directory = c.directory.ensures in
    let more : MoreThan c.requires.1.0 c.room_in-room.result = past_more c.requires.1.0 _ _ _ ((rw c.in-Err.is at c.rounds.ensures.finished) c.requires.1.0 (setting_of c.requires.1.1 directory)) (omega arith) in record { promise = full c.requires.1.0 c.requires.1.1 (rw room_is at more) (ap (refused no_room) room_is) (c.fill.ensures.after (λ y e. e) ∙ ap (λ (n : ℕ). replicate n 0) c.rounds.auto.table); in_dir = directory }
