mod Numbers
mod Operands
mod Opcodes
mod Spelled
mod RoundTrip
