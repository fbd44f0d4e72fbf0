mod Reassembly
