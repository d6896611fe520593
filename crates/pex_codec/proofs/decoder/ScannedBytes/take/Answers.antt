use Rattle.std.proofs.Common.{arith, refl, sym, ap, subst, rules, ℕ, List, length, ◌≡◌, ◌-◌, take}
use Rattle.papy_base.specs.declared.faults.Fault.TheVariants as fault
use Rattle.pex_codec.specs.declared.decoder.ScannedBytes.{ScannedBytes}
use Rattle.pex_codec.specs.declared.cursor.Stop.TheVariants as stop
use Rattle.pex_codec.proofs.Feeding.{Extends, extends, extends_follows, over_stop, end_is_late, piece_ends, piece_taken, piece_too_large, piece_refused}
use Rattle.pex_codec.proofs.decoder.ScannedBytes.take.Goals as goal

pub go_over-requires : goal.go_over-requires
go_over-requires c =
    let old = c.args.self.now in
    let mid : ScannedBytes = record { bytes = c.extend_from_slice.new.self; «open» = old.open; scan = old.scan } in
    let before : c.len-before.result ≡ length old.bytes.items = omega (arith, c.len-before.ensures, old.bytes.ok.0) in
    let e = extends old mid c.args.piece.now c.len-before.result c.min-count.result c.requires before c.min-count.ensures c.in_ok-extend_from_slice.ensures.items refl refl (λ i. omega (arith, c.type_inv.piece i)) in
    extends_follows old mid c.args.piece.now c.min-count.result c.requires e

pub overflow_sub-result : goal.overflow_sub-result
overflow_sub-result c =
    let old = c.args.self.now in
    let mid : ScannedBytes = record { bytes = c.extend_from_slice.new.self; «open» = old.open; scan = old.scan } in
    let before : c.len-before.result ≡ length old.bytes.items = omega (arith, c.len-before.ensures, old.bytes.ok.0) in
    let e = extends old mid c.args.piece.now c.len-before.result c.min-count.result c.requires before c.min-count.ensures c.in_ok-extend_from_slice.ensures.items refl refl (λ i. omega (arith, c.type_inv.piece i)) in
    let late = end_is_late old mid c.go_over.new.self c.args.piece.now c.min-count.result c.requires e c.in-Ok.ensures.0 c.in-Ok.ensures.1 in
    omega (arith, late, before)

pub returns-in-Ok : goal.returns-in-Ok
returns-in-Ok c =
    let old = c.args.self.now in
    let mid : ScannedBytes = record { bytes = c.extend_from_slice.new.self; «open» = old.open; scan = old.scan } in
    let before : c.len-before.result ≡ length old.bytes.items = omega (arith, c.len-before.ensures, old.bytes.ok.0) in
    let e = extends old mid c.args.piece.now c.len-before.result c.min-count.result c.requires before c.min-count.ensures c.in_ok-extend_from_slice.ensures.items refl refl (λ i. omega (arith, c.type_inv.piece i)) in
    let ends = piece_ends old mid c.go_over.new.self c.args.piece.now c.min-count.result c.requires e c.in-Ok.ensures.0 c.in-Ok.ensures.1 in
    rw (c.truncate.ensures.items, before) ends

pub returns-in-Err-Broken-Short : goal.returns-in-Err-Broken-Short
returns-in-Err-Broken-Short c =
    let old = c.args.self.now in
    let mid : ScannedBytes = record { bytes = c.extend_from_slice.new.self; «open» = old.open; scan = old.scan } in
    let before : c.len-before.result ≡ length old.bytes.items = omega (arith, c.len-before.ensures, old.bytes.ok.0) in
    let e = extends old mid c.args.piece.now c.len-before.result c.min-count.result c.requires before c.min-count.ensures c.in_ok-extend_from_slice.ensures.items refl refl (λ i. omega (arith, c.type_inv.piece i)) in
    let over = over_stop mid c.go_over.new.self c.go_over.result (fault.Broken stop.Short) c.go_over.ensures (cc) in
    rw c.broken_at.ensures (piece_too_large old mid c.go_over.new.self c.args.piece.now c.min-count.result e (omega (arith, c.if-count-piece.true)) over.0 over.1)

pub returns-in-Err-Broken-Short-2 : goal.returns-in-Err-Broken-Short-2
returns-in-Err-Broken-Short-2 c =
    let old = c.args.self.now in
    let mid : ScannedBytes = record { bytes = c.extend_from_slice.new.self; «open» = old.open; scan = old.scan } in
    let before : c.len-before.result ≡ length old.bytes.items = omega (arith, c.len-before.ensures, old.bytes.ok.0) in
    let e = extends old mid c.args.piece.now c.len-before.result c.min-count.result c.requires before c.min-count.ensures c.in_ok-extend_from_slice.ensures.items refl refl (λ i. omega (arith, c.type_inv.piece i)) in
    let over = over_stop mid c.go_over.new.self c.go_over.result (fault.Broken stop.Short) c.go_over.ensures (cc) in
    piece_taken old mid c.go_over.new.self c.args.piece.now c.min-count.result e (λ more. omega (arith, more, c.if-count-piece.false)) over.0 over.1

pub returns-in-Err-Broken-Refused : goal.returns-in-Err-Broken-Refused
returns-in-Err-Broken-Refused c =
    let old = c.args.self.now in
    let mid : ScannedBytes = record { bytes = c.extend_from_slice.new.self; «open» = old.open; scan = old.scan } in
    let before : c.len-before.result ≡ length old.bytes.items = omega (arith, c.len-before.ensures, old.bytes.ok.0) in
    let e = extends old mid c.args.piece.now c.len-before.result c.min-count.result c.requires before c.min-count.ensures c.in_ok-extend_from_slice.ensures.items refl refl (λ i. omega (arith, c.type_inv.piece i)) in
    let over = over_stop mid c.go_over.new.self c.go_over.result (fault.Broken (stop.Refused c.in-Err-Broken-Refused.offset c.in-Err-Broken-Refused.rule)) c.go_over.ensures (cc) in
    rw c.broken_at-in-Err-Broken-Refused.ensures (piece_refused old mid c.args.piece.now c.min-count.result c.in-Err-Broken-Refused.offset c.in-Err-Broken-Refused.rule e over)
